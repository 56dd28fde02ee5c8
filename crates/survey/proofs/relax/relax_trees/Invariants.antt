use Rattle.std.proofs.Common.{◌≡◌, ℕ, ◌+◌, ◌<◌, true}
use Rattle.survey.specs.KeptTrees.{NodesCovered, Met, Stepped}
use Rattle.survey.proofs.relax.relax_trees.Given as goal
use Rattle.survey.specs.Survey.{entry, setting}

abbrev pub invariant-loop-label : goal.invariant-loop-label
invariant-loop-label g l =
    let Γ = setting (g.M.Measure.model l.rules.measure.now) (g.S.Sorting.model l.rules.sorting.now) in
    Stepped Γ l.initial.list l.last l.initial.listing.len l.initial.trees l.list l.trees l.listing.len
    × ((i r : ℕ) → i < l.label-index → r < l.last + 1 → NodesCovered Γ (entry Γ l.initial.list) (entry Γ l.list) l.listing.len i l.last r)
    × (l.all_met ≡ true → (i : ℕ) → i < l.label-index → Met Γ (entry Γ l.initial.list) l.trees i l.last)
