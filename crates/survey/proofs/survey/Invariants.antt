use Rattle.std.proofs.Common.{◌-◌, length}
use Rattle.survey.specs.KeptTrees.{TreeTable}
use Rattle.survey.proofs.survey.Given as goal
use Rattle.survey.specs.Survey.{entry, setting}
use Rattle.survey.specs.Steps.{Closed, Kept}

abbrev pub invariant-loop-done : goal.invariant-loop-done
invariant-loop-done g l =
    let Γ = setting (g.M.Measure.model l.measure) (g.S.Sorting.model l.sorting) in
    Kept Γ (entry Γ l.list) l.done l.listing.len (length l.initial.list) × Closed Γ (entry Γ l.list) l.done l.listing.len
    × TreeTable Γ (entry Γ l.list) l.trees l.whole l.done l.listing.len

abbrev pub decreases-loop-done : goal.decreases-loop-done
decreases-loop-done g l = length l.initial.list - l.done
