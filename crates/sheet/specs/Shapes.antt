-- How the tables of a sheet are worked out, in the words of the leaves that come first, last and next.
-- Nothing on this page is needed to read what a sheet means.
use Rattle.std.specs.Prelude.{◌≡◌, ℕ, ◌^◌, ◌<◌, ◌≤◌, T, ◌⊎◌, ◌↔◌, List, length, slice_index}
use Rattle.std.proofs.Math.Option.{some}
use Rattle.rows.specs.Sheet.{Sheet, at, places, Numbered, Names, Defines}
use Rattle.rows.specs.declared.row.Row.TheVariants.{Def as def}
use Rattle.sheet.specs.Standing.{Bit, SetOf}
use Rattle.rows.specs.Steps.{WellFormed, Nullable, Opens, Closes, Next}
use Rattle.rows.specs.Parts.{Numbers}
pub use Rattle.sheet.specs.declared.shape.Shape.{Shape}

-- What the tables are worked out from: rows whose parts fit, with the numbers of their places.
pub record Ready (s : Sheet) (numbers : List ℕ) : Type 0 where
  pub formed : WellFormed s
  pub numbered : Numbers s numbers
  pub few : places s ≤ 64
  pub short : length s ≤ 128
  pub long : length numbers ≡ 128

-- The shape of row e.
pub record Shaped (s : Sheet) (e : ℕ) (r : Shape) : Type 0 where
  pub empty : T r.empty ↔ Nullable s e
  pub opening : SetOf s r.opening (λ p. Opens s p e)
  pub closing : SetOf s r.closing (λ q. Closes s q e)

-- A table of sets of places, an element for each place: the place p now also has each place q that R says.
pub record Grown (s : Sheet) (old new : List ℕ) (R : ℕ → ℕ → Type 0) : Type 0 where
  pub bits : (i j q p : ℕ) → Numbered s i q → Numbered s j p → Bit i (slice_index new j) ↔ (Bit i (slice_index old j) ⊎ R q p)
  pub bound : ((j : ℕ) → slice_index old j < 2 ^ places s) → (j : ℕ) → slice_index new j < 2 ^ places s

-- Within the definition at row e with expression x, from the place q one can go on with the leaf p, or stop.
abbrev pub LeadsAt : Sheet → ℕ → ℕ → ℕ → ℕ → Type 0
LeadsAt s e x q p = ((q ≡ e) × Opens s p x) ⊎ Next s q p x

abbrev pub EndsAt : Sheet → ℕ → ℕ → ℕ → Type 0
EndsAt s e x q = ((q ≡ e) × Nullable s x) ⊎ Closes s q x

-- The same within the definitions among the first k rows.
abbrev pub LeadsBelow : Sheet → ℕ → ℕ → ℕ → Type 0
LeadsBelow s k q p = (e x : ℕ) × (e < k) × (at s e ≡ some (def x)) × LeadsAt s e x q p

abbrev pub EndsBelow : Sheet → ℕ → ℕ → Type 0
EndsBelow s k q = (e x : ℕ) × (e < k) × (at s e ≡ some (def x)) × EndsAt s e x q

-- The leaf p holds content of the definition at row w.
abbrev pub Holds : Sheet → ℕ → ℕ → Type 0
Holds s p w = (d x : ℕ) × Names s p d × Defines s d w x
