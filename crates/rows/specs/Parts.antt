-- How rows are taken in one by one: what the code says of a row beside the rows below it.
-- Nothing on this page is needed to read which sheets are sound or which refusal is due.
use Rattle.forest.specs.Refusals.{number_of}
use Rattle.std.specs.Prelude.{◌≡◌, ℕ, zero, suc, ◌+◌, ◌^◌, ◌<◌, cond, ◌⊎◌, List, length, take, ◌==◌, ◌≢◌, slice_index}
use Rattle.std.proofs.Math.Option.{Option, none, some}
use Rattle.forest.specs.declared.fault.Fault.{Fault}
use Rattle.rows.specs.Sheet.{Sheet, Row, empty, one_text, named, any, seq, alt, many, def, at, places}
use Rattle.rows.specs.Raw.{RawRow, RowSays}

-- The row numbered a is among those below, and no definition.
pub record Sits (below : Sheet) (a : ℕ) : Type 0 where
  pub lower : a < length below
  pub plain : (x : ℕ) → at below a ≢ some (def x)

-- The parts of the row sit among those below.
abbrev pub PartsSit : Row → Sheet → Type 0
PartsSit empty s = Unit {0}
PartsSit one_text s = Unit {0}
PartsSit (named l d) s = Unit {0}
PartsSit (any d) s = Unit {0}
PartsSit (seq a b) s = Sits s a × Sits s b
PartsSit (alt a b) s = Sits s a × Sits s b
PartsSit (many a) s = Sits s a
PartsSit (def a) s = Sits s a

-- The row that the bytes say, over the rows below.
pub record Taken (raw : RawRow) (below : Sheet) (x : Row) : Type 0 where
  pub says : RowSays raw x
  pub sit : PartsSit x below

-- Why there is none: the bytes say nothing, or a part does not sit.
pub record NotTaken (raw : RawRow) (below : Sheet) (f : Fault) : Type 0 where
  pub here : f.place ≡ length below
  pub why : ((number_of f.refusal ≡ 10) × ((x : Row) → RowSays raw x → ⊥))
      ⊎ ((number_of f.refusal ≡ 11) × ((x : Row) × RowSays raw x × (PartsSit x below → ⊥)))

-- The parts of the row are below the number.
abbrev pub PartsBelow : Row → ℕ → Type 0
PartsBelow empty n = Unit {0}
PartsBelow one_text n = Unit {0}
PartsBelow (named l d) n = Unit {0}
PartsBelow (any d) n = Unit {0}
PartsBelow (seq a b) n = (a < n) × (b < n)
PartsBelow (alt a b) n = (a < n) × (b < n)
PartsBelow (many a) n = a < n
PartsBelow (def a) n = a < n

-- How often row a is a part of the row, and of the first i rows.
abbrev pub hit : ℕ → ℕ → ℕ
hit a x = cond (a == x) 1 0

abbrev pub hits : ℕ → Option Row → ℕ
hits a none = 0
hits a (some empty) = 0
hits a (some one_text) = 0
hits a (some (named l d)) = 0
hits a (some (any d)) = 0
hits a (some (seq x y)) = hit a x + hit a y
hits a (some (alt x y)) = hit a x + hit a y
hits a (some (many x)) = hit a x
hits a (some (def x)) = hit a x

abbrev pub uses : Sheet → ℕ → ℕ → ℕ
uses s zero a = 0
uses s (suc i) a = uses s i a + hits a (at s i)

-- The lowest number that fails.
pub record Lowest (n : ℕ) (P : ℕ → Type 0) (p : ℕ) : Type 0 where
  pub within : p < n
  pub below : (q : ℕ) → q < p → P q
  pub fails : P p → ⊥

-- The list has for each row how many places stand below it.
abbrev pub Numbers : Sheet → List ℕ → Type 0
Numbers s ns = (e : ℕ) → e < length s → slice_index ns e ≡ places (take e s)

-- The table keeps below whatever bound it and the new members are below.
abbrev pub KeptBelow : ℕ → List ℕ → List ℕ → Type 0
KeptBelow from old new = (k : ℕ) → from < 2 ^ k → ((j : ℕ) → slice_index old j < 2 ^ k) → (j : ℕ) → slice_index new j < 2 ^ k
