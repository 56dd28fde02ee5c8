-- Checking the rows of a read sheet: which refusal is due, where they are no sound sheet.
use Rattle.std.specs.Prelude.{◌≡◌, ℕ, suc, ◌<◌, List, length, take, ◌≢◌}
use Rattle.std.proofs.Math.Option.{some}
use Rattle.rows.specs.Sheet.{Sheet, def, at, definitions, Names, Place, places, Side, Part, Sound}
use Rattle.rows.specs.Raw.{RawRow, AllSay}

-- The parts of row e stand below it and are no definitions.
abbrev pub PartsFit : Sheet → ℕ → Type 0
PartsFit s e = (k : Side) (a : ℕ) → Part s e k a → (a < e) × ((x : ℕ) → at s a ≢ some (def x))

-- Row a is a definition, or a part of exactly one row, and once only.
pub data OnceAPart (s : Sheet) : ℕ → Type 0 where
  is_definition : {a x : ℕ} → at s a ≡ some (def x) → OnceAPart s a
  is_part : {a e : ℕ} {k : Side} → Part s e k a
      → ((e' : ℕ) (k' : Side) → Part s e' k' a → (e' ≡ e) × (k' ≡ k)) → OnceAPart s a

-- The definition that row p names, if it names one, is there.
abbrev pub ContentThere : Sheet → ℕ → Type 0
ContentThere s p = (d : ℕ) → Names s p d → d < definitions s

-- The first p rows say rows, and their parts fit.
pub record GoodFront (raws : List RawRow) (p : ℕ) (s : Sheet) : Type 0 where
  pub say : AllSay (take p raws) s
  pub fit : (e : ℕ) → PartsFit s e

-- All rows say rows and their parts fit.
pub record GoodRows (raws : List RawRow) (s : Sheet) : Type 0 where
  pub say : AllSay raws s
  pub fit : (e : ℕ) → PartsFit s e

-- What is wrong over the whole sheet, whose parts fit: 12, the lowest row that is not once a part; 13, the lowest row that names
-- a missing definition; 14, the 65th place. Each only where those before it are kept.
pub data WrongOverAll (s : Sheet) : (number place : ℕ) → Type 0 where
  not_once : {p : ℕ} → p < length s → ((a : ℕ) → a < p → OnceAPart s a) → (OnceAPart s p → ⊥) → WrongOverAll s 12 p
  not_there : {p : ℕ} → ((a : ℕ) → a < length s → OnceAPart s a)
      → p < length s → ((q : ℕ) → q < p → ContentThere s q) → (ContentThere s p → ⊥) → WrongOverAll s 13 p
  too_many : {p : ℕ} → ((a : ℕ) → a < length s → OnceAPart s a) → ((q : ℕ) → ContentThere s q)
      → Place s p → places (take p s) ≡ 64 → WrongOverAll s 14 p

-- The refusal of this number is due at this row. Row by row upwards: 10, the row says nothing; 11, a part of it does not fit.
-- Then what is wrong over the whole sheet.
pub data Due (raws : List RawRow) : (number place : ℕ) → Type 0 where
  says_nothing : {p : ℕ} {s : Sheet} → p < length raws → GoodFront raws p s
      → ((s' : Sheet) → AllSay (take (suc p) raws) s' → ⊥) → Due raws 10 p
  parts_astray : {p : ℕ} {s s' : Sheet} → p < length raws → GoodFront raws p s
      → AllSay (take (suc p) raws) s' → (PartsFit s' p → ⊥) → Due raws 11 p
  over_all : {n p : ℕ} {s : Sheet} → GoodRows raws s → WrongOverAll s n p → Due raws n p

-- The rows are those of the sound sheet.
pub record Passes (raws : List RawRow) (s : Sheet) : Type 0 where
  pub say : AllSay raws s
  pub sound : Sound s

-- No rows are two sheets, have two refusals due, or are a sound sheet with a refusal due.
pub record AtMostOne (raws : List RawRow) : Type 0 where
  pub one_sheet : (s s' : Sheet) → Passes raws s → Passes raws s' → s ≡ s'
  pub one_refusal : (n p m q : ℕ) → Due raws n p → Due raws m q → (n ≡ m) × (p ≡ q)
  pub not_both : (s : Sheet) (n p : ℕ) → Passes raws s → Due raws n p → ⊥
