-- The leaves that admit a node, told apart by its label and by its content.
-- Nothing on this page is needed to read what a sheet means.
use Rattle.std.specs.Prelude.{◌≡◌, ℕ, ◌⊎◌}
use Rattle.std.proofs.Math.Option.{some}
use Rattle.forest.specs.Forest.{Forest}
use Rattle.rows.specs.Sheet.{Sheet, at, Names}
use Rattle.rows.specs.declared.row.Row.TheVariants.{Named as named, Any as any}
use Rattle.sheet.specs.Meaning.{Belongs}

-- The leaf p is for nodes with the label, or for nodes of any label.
abbrev pub HasLabel : Sheet → ℕ → ℕ → Type 0
HasLabel s l p = ((d : ℕ) × (at s p ≡ some (named l d))) ⊎ ((d : ℕ) × (at s p ≡ some (any d)))

-- The content belongs to the definition that the leaf p names.
abbrev pub HasContent : Sheet → Forest → ℕ → Type 0
HasContent s c p = (d : ℕ) × Names s p d × Belongs s d c
