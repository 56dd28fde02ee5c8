-- The labels that are tried for two sheets. Whoever calls the judge needs none of it.
use Rattle.std.specs.Prelude.{◌≡◌, ℕ, ◌-◌, ◌<◌, List, length, slice_index, All, Contains}
use Rattle.std.proofs.Math.Option.{some}
use Rattle.forest.specs.Forest.{Label}
use Rattle.rows.specs.Sheet.{Sheet, at}
use Rattle.rows.specs.declared.row.Row.TheVariants.{Named}

-- Some row of the sheet names the label.
abbrev pub Mentions : Sheet → ℕ → Type 0
Mentions s l = (p d : ℕ) × (at s p ≡ some (Named l d))

abbrev pub last : List ℕ → ℕ
last ls = slice_index ls (length ls - 1)

-- All that the sheets name are among the labels, and the last of them is one that neither names.
pub record Tries (old new : Sheet) (ls : List ℕ) : Type 0 where
  pub there : 0 < length ls
  pub real : All Label ls
  pub of_old : (l : ℕ) → Mentions old l → Contains ls l
  pub of_new : (l : ℕ) → Mentions new l → Contains ls l
  pub not_old : Mentions old (last ls) → ⊥
  pub not_new : Mentions new (last ls) → ⊥
