-- Sheets: rows numbered from 0, their parts, definitions, leaves and places, and which sheets are sound.
use Rattle.std.specs.Prelude.{◌≡◌, ℕ, zero, suc, ◌<◌, ◌≤◌, ◌⊎◌, List, [], ◌∷◌, length, take, ◌≢◌}
use Rattle.std.proofs.Math.Option.{Option, none, some}
use Rattle.forest.specs.Forest.{Label}
pub use Rattle.rows.specs.declared.row.Row.{Row}
pub use Rattle.rows.specs.declared.row.Row.TheVariants.{Empty as empty, Text as one_text, Named as named, Any as any, Seq as seq, Alt as alt, Many as many, Def as def}

abbrev pub Sheet : Type 0
Sheet = List Row

-- The row of a number, where there is one.
abbrev pub at : Sheet → ℕ → Option Row
at [] n = none
at (r ∷ s) zero = some r
at (r ∷ s) (suc n) = at s n

-- How many of the rows are definitions.
abbrev pub definitions : Sheet → ℕ
definitions [] = 0
definitions (empty ∷ s) = definitions s
definitions (one_text ∷ s) = definitions s
definitions (named l d ∷ s) = definitions s
definitions (any d ∷ s) = definitions s
definitions (seq a b ∷ s) = definitions s
definitions (alt a b ∷ s) = definitions s
definitions (many a ∷ s) = definitions s
definitions (def a ∷ s) = suc (definitions s)

-- The definition numbered d is row e, and its expression is row x.
-- Definitions are numbered from 0 in row order.
pub record Defines (s : Sheet) (d e x : ℕ) : Type 0 where
  pub is : at s e ≡ some (def x)
  pub number : definitions (take e s) ≡ d

-- A leaf is a row for one text or for one node.
pub data Leaf (s : Sheet) : ℕ → Type 0 where
  leaf_text : {p : ℕ} → at s p ≡ some one_text → Leaf s p
  leaf_named : {p l d : ℕ} → at s p ≡ some (named l d) → Leaf s p
  leaf_any : {p d : ℕ} → at s p ≡ some (any d) → Leaf s p

-- Row p is a node whose content is of definition d.
pub data Names (s : Sheet) : ℕ → ℕ → Type 0 where
  by_named : {p l d : ℕ} → at s p ≡ some (named l d) → Names s p d
  by_any : {p d : ℕ} → at s p ≡ some (any d) → Names s p d

-- A place is a definition or a leaf.
pub data Place (s : Sheet) : ℕ → Type 0 where
  a_definition : {e x : ℕ} → at s e ≡ some (def x) → Place s e
  a_leaf : {p : ℕ} → Leaf s p → Place s p

-- How many of the rows are places.
abbrev pub places : Sheet → ℕ
places [] = 0
places (empty ∷ s) = places s
places (one_text ∷ s) = suc (places s)
places (named l d ∷ s) = suc (places s)
places (any d ∷ s) = suc (places s)
places (seq a b ∷ s) = places s
places (alt a b ∷ s) = places s
places (many a ∷ s) = places s
places (def a ∷ s) = suc (places s)

-- Row e is the place numbered i.
-- Places are numbered from 0 in row order, definitions and leaves together.
pub record Numbered (s : Sheet) (i e : ℕ) : Type 0 where
  pub is : Place s e
  pub number : places (take e s) ≡ i

-- Row a stands as the first or the second part of row e.
pub data Side : Type 0 where
  first second : Side

pub data Part (s : Sheet) : ℕ → Side → ℕ → Type 0 where
  seq_first : {e a b : ℕ} → at s e ≡ some (seq a b) → Part s e first a
  seq_second : {e a b : ℕ} → at s e ≡ some (seq a b) → Part s e second b
  alt_first : {e a b : ℕ} → at s e ≡ some (alt a b) → Part s e first a
  alt_second : {e a b : ℕ} → at s e ≡ some (alt a b) → Part s e second b
  many_part : {e a : ℕ} → at s e ≡ some (many a) → Part s e first a
  def_part : {e a : ℕ} → at s e ≡ some (def a) → Part s e first a

-- A sheet has 1 to 128 rows and at most 64 places. A part stands below the row it is a part of, and is no definition.
-- Every row but a definition is a part of exactly one row, and once only. Every definition that a leaf names is there.
pub record Sound (s : Sheet) : Type 0 where
  pub filled : 0 < length s
  pub short : length s ≤ 128
  pub labelled : (e l d : ℕ) → at s e ≡ some (named l d) → Label l
  pub lower : {e a : ℕ} {k : Side} → Part s e k a → a < e
  pub plain : {e a x : ℕ} {k : Side} → Part s e k a → at s a ≢ some (def x)
  pub once : {e e' a : ℕ} {k k' : Side} → Part s e k a → Part s e' k' a → (e ≡ e') × (k ≡ k')
  pub used : (a : ℕ) → a < length s
      → ((x : ℕ) × (at s a ≡ some (def x))) ⊎ ((e : ℕ) × (k : Side) × Part s e k a)
  pub there : {p d : ℕ} → Names s p d → d < definitions s
  pub few : places s ≤ 64
