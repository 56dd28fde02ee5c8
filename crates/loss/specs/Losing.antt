-- Lost forests, kept forests, and their sorts.
use Rattle.std.specs.Prelude.{◌≡◌, Bool, true, false}
use Rattle.forest.specs.Forest.{Forest}
use Rattle.survey.specs.declared.types.Standings.{Standings}
use Rattle.survey.specs.Sorting.{Model}

-- Which forests are lost, and which are kept.
pub record Sides : Type 1 where
  pub lost : Forest → Type 0
  pub kept : Forest → Type 0

-- Every forest of the sort is as P says.
abbrev pub AllOf : Model → (Forest → Type 0) → Standings → Type 0
AllOf s P σ = (f : Forest) → s.counts f → s.has f σ → P f

-- A sort tells whether its forests are lost or kept.
pub record Tells (s : Model) (sides : Sides) (σ : Standings) (r : Bool) : Type 0 where
  pub yes : r ≡ true → AllOf s sides.lost σ
  pub no : r ≡ false → AllOf s sides.kept σ
