-- What the lemmas on standings say.
use Rattle.std.proofs.Common.{◌≡◌, ℕ, ◌⊎◌, ◌↔◌, List}
use mathlib.Core.Option.{some}
use Rattle.forest.specs.Forest.{Forest, nil, text, node}
use Rattle.sheet.specs.Standing.{Tree, before}
use Rattle.rows.specs.Sheet.{Sheet, at, Defines}
use Rattle.rows.specs.declared.row.Row.TheVariants.{Text as one_text, Named as named, Any as any, Def as def}
use Rattle.sheet.specs.Meaning.{Admits, Belongs, MayFollow}
use Rattle.rows.specs.Steps.{Nullable, Opens, Closes, Next}

-- The standing of a forest from those of its parts.
pub record StandingOfNil (s : Sheet) : Type 0 where
  pub belongs : (d : ℕ) → Belongs s d nil ↔ ((e x : ℕ) × Defines s d e x × Nullable s x)
  pub follows : (q : ℕ) → MayFollow s q nil ↔ ((e x : ℕ) × (at s e ≡ some (def x)) × Closes s q x)

pub record StandingOfTree (s : Sheet) (t : Tree) (r : Forest) : Type 0 where
  pub belongs : (d : ℕ) → Belongs s d (before t r)
      ↔ ((e x p : ℕ) × Defines s d e x × Opens s p x × Admits s p (before t nil) × MayFollow s p r)
  pub follows : (q : ℕ) → MayFollow s q (before t r)
      ↔ ((e x p : ℕ) × (at s e ≡ some (def x)) × Next s q p x × Admits s p (before t nil) × MayFollow s p r)

pub record LeafFits (s : Sheet) (p : ℕ) : Type 0 where
  pub to_text : (b : List ℕ) → Admits s p (text b nil) ↔ (at s p ≡ some one_text)
  pub to_node : (l : ℕ) (c : Forest) → Admits s p (node l c nil)
      ↔ (((d : ℕ) × (at s p ≡ some (named l d)) × Belongs s d c) ⊎ ((d : ℕ) × (at s p ≡ some (any d)) × Belongs s d c))
