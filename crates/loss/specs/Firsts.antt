-- The first element of a list whose forests are lost. Whoever calls the judge needs none of it.
use Rattle.std.specs.Prelude.{ℕ, ◌<◌, Some, None, Option}
use Rattle.survey.specs.declared.types.Sort.{Sort}
use Rattle.survey.specs.Sorting.{Model}
use Rattle.loss.specs.Losing.{Sides, AllOf}

abbrev pub FirstLost : {C : Type 0} → Model → Sides → (ℕ → Sort C) → ℕ → Option ℕ → Type 0
FirstLost s sides e n (Some k) = (k < n) × AllOf s sides.lost (e k).standings × ((j : ℕ) → j < k → AllOf s sides.kept (e j).standings)
FirstLost s sides e n None = (j : ℕ) → j < n → AllOf s sides.kept (e j).standings
