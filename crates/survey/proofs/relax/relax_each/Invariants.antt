use Rattle.std.proofs.Common.{ℕ, ◌+◌, ◌<◌, length}
use Rattle.survey.specs.KeptTrees.{NodesCovered}
use Rattle.survey.proofs.relax.relax_each.Given as goal
use Rattle.survey.specs.Survey.{entry, setting}
use Rattle.survey.specs.Steps.{Grown}

abbrev pub invariant-loop-label : goal.invariant-loop-label
invariant-loop-label g l =
    let Γ = setting (g.M.Measure.model l.rules.measure.now) (g.S.Sorting.model l.rules.sorting.now) in
    Grown Γ (entry Γ l.initial.list) (entry Γ l.list) (l.last + 1) l.initial.listing.len l.listing.len (length l.initial.list)
    × ((i : ℕ) → i < l.label-index → NodesCovered Γ (entry Γ l.initial.list) (entry Γ l.list) l.listing.len i l.content l.last)
