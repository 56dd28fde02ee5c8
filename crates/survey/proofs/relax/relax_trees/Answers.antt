use Rattle.std.proofs.Common.{ℕ, List, length, slice_index, refl, ap, subst, arith}
use Rattle.survey.specs.declared.types.Sort.{Sort}
use Rattle.survey.specs.declared.types.Tree.{Tree}
use Rattle.survey.proofs.Relaxes.{read}
use Rattle.survey.specs.Sorting.{NodeLeaves}
use Rattle.survey.proofs.KeptTrees.{fresh_more}
use Rattle.survey.proofs.relax.relax_trees.Goals as goal
use Rattle.survey.specs.Survey.{entry, setting}

pub loop-label-preserved : goal.loop-label-preserved
loop-label-preserved g c =
    let C = g.row.M-Cost.Denot in
    let Γ = setting (g.M.Measure.model c.args.rules.now.measure.now) (g.S.Sorting.model c.args.rules.now.sorting.now) in
    let so = c.requires.kept.sound in
    let z = c.in_ok-all_met.ensures in
    let xs = c.args.list.now in
    let e = entry Γ xs in
    let i = c.loop-label.label-index in
    let rd = read Γ xs c.args.last c.index-list-last.result (omega (arith, c.requires.kept.within, c.requires.kept.fits)) c.index-list-last.is in
    let label = slice_index c.labels-label-items.result.now i in
    let t : Tree = record { leaves = c.leaves-leaves.result; label = label; content = c.args.last } in
    let p : NodeLeaves Γ.sorts (slice_index Γ.sorts.labels i) (e c.args.last).standings t.leaves =
    subst (λ (ls : List ℕ). NodeLeaves Γ.sorts (slice_index ls i) (e c.args.last).standings t.leaves) c.labels-label-items.ensures
    (subst (λ (z : Sort C). NodeLeaves Γ.sorts label z.standings t.leaves) rd c.leaves-leaves.ensures) in
    fresh_more so xs c.loop-label.list c.relax_new.new.list c.args.last c.args.listing.now.len c.loop-label.listing.len c.relax_new.new.listing.len i
    c.args.trees.now c.loop-label.trees c.relax_new.new.trees c.loop-label.all_met c.in_ok-all_met.field-0 t
    (omega arith) p refl c.loop-label.invariant.0 c.loop-label.invariant.1 c.loop-label.invariant.2 z.0 z.1 z.2

pub returns : goal.returns
returns g c =
    let all = ap length c.labels-label-items.ensures in
    (c.loop-label.invariant.0, (λ i r h lr. c.loop-label.invariant.1 i r (omega arith) lr), λ h i lt. c.loop-label.invariant.2 h i (omega arith))
