use Rattle.std.proofs.Common.{ℕ, ◌+◌, ◌<◌, length}
use Rattle.survey.specs.KeptTrees.{tree_at, Joined}
use Rattle.survey.proofs.relax.relax_before.Given as goal
use Rattle.survey.specs.Survey.{entry, setting}
use Rattle.survey.specs.Steps.{Grown}

abbrev pub invariant-loop-tree : goal.invariant-loop-tree
invariant-loop-tree g l =
    let Γ = setting (g.M.Measure.model l.rules.measure.now) (g.S.Sorting.model l.rules.sorting.now) in
    Grown Γ (entry Γ l.initial.list) (entry Γ l.list) (l.last + 1) l.initial.listing.len l.listing.len (length l.initial.list)
    × ((t : ℕ) → t < l.tree-index → Joined Γ (entry Γ l.initial.list) (entry Γ l.list) l.listing.len (tree_at l.trees t) l.last)
