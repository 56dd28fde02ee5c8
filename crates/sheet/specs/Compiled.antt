-- The tables of a sheet, and what each of them holds.
-- Nothing on this page is needed to read what a sheet means.
use Rattle.std.specs.Prelude.{◌≡◌, ℕ, ◌^◌, ◌<◌, ◌↔◌, Option, Some, None, List, length, take, slice_index}
use Rattle.std.proofs.Math.Option.{some}
use Rattle.rows.specs.Sheet.{Sheet, at, definitions, places, Numbered, Names, Defines}
use Rattle.rows.specs.declared.row.Row.{Row}
use Rattle.rows.specs.declared.row.Row.TheVariants.{Text as one_text, Named as named, Any as any}
use Rattle.sheet.specs.Standing.{Bit, SetOf}
use Rattle.sheet.specs.Shapes.{LeadsBelow, EndsBelow, Holds}
pub use Rattle.sheet.specs.declared.tables.LeafKind.{LeafKind}
pub use Rattle.sheet.specs.declared.tables.LeafKind.TheVariants.{Text, Named, Any}
pub use Rattle.sheet.specs.declared.tables.Tables.{Tables}

-- A table of sets of places, an element for each place: the place p has each place q that R says.
pub record Tabled (s : Sheet) (t : List ℕ) (R : ℕ → ℕ → Type 0) : Type 0 where
  pub bits : (i j q p : ℕ) → Numbered s i q → Numbered s j p → Bit i (slice_index t j) ↔ R q p
  pub bound : (j : ℕ) → slice_index t j < 2 ^ places s

-- Row p is a leaf for one text, for a node with a label, for a node of any label.
abbrev pub TextAt : Sheet → ℕ → Type 0
TextAt s p = at s p ≡ some one_text

abbrev pub NamedAt : Sheet → ℕ → Type 0
NamedAt s p = (l d : ℕ) × (at s p ≡ some (named l d))

abbrev pub AnyAt : Sheet → ℕ → Type 0
AnyAt s p = (d : ℕ) × (at s p ≡ some (any d))

-- The row is a leaf of this kind, or no leaf.
abbrev pub IsKind : Row → Option LeafKind → Type 0
IsKind r (Some Text) = r ≡ one_text
IsKind r (Some Named) = (l d : ℕ) × (r ≡ named l d)
IsKind r (Some Any) = (d : ℕ) × (r ≡ any d)
IsKind r None = (r ≡ one_text → ⊥) × ((l d : ℕ) → r ≡ named l d → ⊥) × ((d : ℕ) → r ≡ any d → ⊥)

-- The leaf p, among the first k rows, holds content of the definition at row w.
abbrev pub HoldsBelow : Sheet → ℕ → ℕ → ℕ → Type 0
HoldsBelow s k p w = (p < k) × Holds s p w

-- For each definition, the number of its place.
abbrev pub Homes : Sheet → List ℕ → Type 0
Homes s hs = (d e x : ℕ) → Defines s d e x → slice_index hs d ≡ places (take e s)

-- For each leaf with a label, the label.
abbrev pub Labels : Sheet → ℕ → List ℕ → Type 0
Labels s k ls = (p l d : ℕ) → p < k → at s p ≡ some (named l d) → slice_index ls (places (take p s)) ≡ l

-- Every definition that is named is there, and there is one.
pub record AllThere (s : Sheet) : Type 0 where
  pub named : (p d : ℕ) → Names s p d → d < definitions s
  pub top : 0 < definitions s

pub record Compiled (s : Sheet) (t : Tables) : Type 0 where
  pub ends : SetOf s t.ends (EndsBelow s (length s))
  pub before : Tabled s t.before (LeadsBelow s (length s))
  pub texts : SetOf s t.texts (TextAt s)
  pub named : SetOf s t.named (NamedAt s)
  pub anys : SetOf s t.anys (AnyAt s)
  pub labels : Labels s (length s) t.labels
  pub holders : Tabled s t.holders (Holds s)
  pub top : SetOf s t.top (λ e. (x : ℕ) × Defines s 0 e x)
