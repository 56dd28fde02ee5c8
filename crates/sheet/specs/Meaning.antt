-- What a sheet means: which forests belong to it, and which may follow a leaf.
use Rattle.std.specs.Prelude.{◌≡◌, ℕ, List}
use Rattle.std.proofs.Math.Option.{some}
use Rattle.forest.specs.Forest.{Forest, nil, text, node, join}
use Rattle.rows.specs.Sheet.{Sheet, at, Defines, Leaf}
use Rattle.rows.specs.declared.row.Row.TheVariants.{Empty as empty, Text as one_text, Named as named, Any as any, Seq as seq, Alt as alt, Many as many, Def as def}

-- Row e of the sheet admits the forest.
pub data Admits (s : Sheet) : ℕ → Forest → Type 0 where
  of_empty : {e : ℕ} → at s e ≡ some empty → Admits s e nil
  of_text : {e : ℕ} {t : List ℕ} → at s e ≡ some one_text → Admits s e (text t nil)
  of_named : {e l d w x : ℕ} {c : Forest}
      → at s e ≡ some (named l d) → Defines s d w x → Admits s x c → Admits s e (node l c nil)
  of_any : {e l d w x : ℕ} {c : Forest}
      → at s e ≡ some (any d) → Defines s d w x → Admits s x c → Admits s e (node l c nil)
  of_seq : {e a b : ℕ} {f g : Forest}
      → at s e ≡ some (seq a b) → Admits s a f → Admits s b g → Admits s e (join f g)
  of_alt_first : {e a b : ℕ} {f : Forest} → at s e ≡ some (alt a b) → Admits s a f → Admits s e f
  of_alt_second : {e a b : ℕ} {f : Forest} → at s e ≡ some (alt a b) → Admits s b f → Admits s e f
  of_many_none : {e a : ℕ} → at s e ≡ some (many a) → Admits s e nil
  of_many_more : {e a : ℕ} {f g : Forest}
      → at s e ≡ some (many a) → Admits s a f → Admits s e g → Admits s e (join f g)
  of_def : {e a : ℕ} {f : Forest} → at s e ≡ some (def a) → Admits s a f → Admits s e f

-- Within row e, the forest may follow the leaf p.
pub data Follows (s : Sheet) (p : ℕ) : ℕ → Forest → Type 0 where
  itself : Leaf s p → Follows s p p nil
  in_seq_first : {e a b : ℕ} {f g : Forest}
      → at s e ≡ some (seq a b) → Follows s p a f → Admits s b g → Follows s p e (join f g)
  in_seq_second : {e a b : ℕ} {f : Forest} → at s e ≡ some (seq a b) → Follows s p b f → Follows s p e f
  in_alt_first : {e a b : ℕ} {f : Forest} → at s e ≡ some (alt a b) → Follows s p a f → Follows s p e f
  in_alt_second : {e a b : ℕ} {f : Forest} → at s e ≡ some (alt a b) → Follows s p b f → Follows s p e f
  in_many : {e a : ℕ} {f g : Forest}
      → at s e ≡ some (many a) → Follows s p a f → Admits s e g → Follows s p e (join f g)
  in_def : {e a : ℕ} {f : Forest} → at s e ≡ some (def a) → Follows s p a f → Follows s p e f

-- The forest belongs to the definition numbered d: its expression admits it.
pub record Belongs (s : Sheet) (d : ℕ) (f : Forest) : Type 0 where
  pub row : ℕ
  pub expression : ℕ
  pub defines : Defines s d row expression
  pub admits : Admits s expression f

-- The forest may follow the leaf p: within the expression that holds it.
pub record MayFollow (s : Sheet) (p : ℕ) (f : Forest) : Type 0 where
  pub row : ℕ
  pub expression : ℕ
  pub is : at s row ≡ some (def expression)
  pub follows : Follows s p expression f

-- The forest belongs to the sheet: to its definition 0.
abbrev pub OfSheet : Sheet → Forest → Type 0
OfSheet s f = Belongs s 0 f

-- The standing of a forest over a sheet: the definitions that it belongs to and the leaves that it may follow, by their rows.
pub data Stands (s : Sheet) (f : Forest) : ℕ → Type 0 where
  at_definition : {d e x : ℕ} → Defines s d e x → Belongs s d f → Stands s f e
  at_leaf : {p : ℕ} → MayFollow s p f → Stands s f p
