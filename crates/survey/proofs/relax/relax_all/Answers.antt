use Rattle.std.proofs.Common.{◌+◌, List, length, Ok, sym, subst, arith}
use Rattle.survey.specs.declared.types.Tree.{Tree}
use Rattle.survey.specs.KeptTrees.{tree_at, TreesOver, Before}
use Rattle.survey.specs.Survey.{entry, setting}
use Rattle.survey.proofs.Loops.{grown_cap}
use Rattle.survey.proofs.KeptTrees.{over_move, trees_ready, around_stays, around_advances}
use Rattle.survey.proofs.relax.relax_all.Goals as goal

pub relax_before-requires-clause-over : goal.relax_before-requires-clause-over
relax_before-requires-clause-over g c =
    let Γ = setting (g.M.Measure.model c.args.rules.now.measure.now) (g.S.Sorting.model c.args.rules.now.sorting.now) in
    let trees = c.args.trees.now in
    subst (λ (ts : List Tree). TreesOver Γ c.relax_text.new.list ts (c.args.last + 1)) (sym c.as_slice.ensures)
    (λ t lt. over_move (entry Γ c.args.list.now) (entry Γ c.relax_text.new.list) c.args.last (c.args.last + 1) (tree_at trees t) (omega arith) (λ k h. c.in_ok-relax_text.ensures.0.same k (omega arith)) (c.requires.table.trees.over t lt))

pub relax_trees-requires-clause-trees : goal.relax_trees-requires-clause-trees
relax_trees-requires-clause-trees g c =
    let Γ = setting (g.M.Measure.model c.args.rules.now.measure.now) (g.S.Sorting.model c.args.rules.now.sorting.now) in
    let before = subst (λ (ts : List Tree). Before Γ c.relax_text.new.list c.args.last c.relax_text.new.listing.len ts c.relax_before.new.list c.relax_before.new.listing.len (Ok (tt {0}))) c.as_slice.ensures c.in_ok-relax_before.ensures in
    trees_ready c.requires.kept.sound (entry Γ c.args.list.now) (entry Γ c.relax_text.new.list) (entry Γ c.relax_before.new.list) (entry Γ c.relax_rests.new.list) c.args.trees.now c.args.last c.args.listing.now.len c.relax_text.new.listing.len c.relax_before.new.listing.len c.relax_rests.new.listing.len (length c.args.list.now)
    c.requires.table.trees c.in_ok-relax_text.ensures.0 (grown_cap (omega arith) before.0) (grown_cap (omega arith) c.in_ok-relax_rests.ensures.0) before.1

pub returns : goal.returns
returns g c =
    let Γ = setting (g.M.Measure.model c.args.rules.now.measure.now) (g.S.Sorting.model c.args.rules.now.sorting.now) in
    let before = subst (λ (ts : List Tree). Before Γ c.relax_text.new.list c.args.last c.relax_text.new.listing.len ts c.relax_before.new.list c.relax_before.new.listing.len (Ok (tt {0}))) c.as_slice.ensures c.in_ok-relax_before.ensures in
    around_stays c.requires.kept.sound c.args.list.now c.relax_text.new.list c.relax_before.new.list c.relax_rests.new.list c.relax_trees.new.list c.args.trees.now c.relax_trees.new.trees
    c.args.whole c.args.last c.args.listing.now.len c.relax_text.new.listing.len c.relax_before.new.listing.len c.relax_rests.new.listing.len c.relax_trees.new.listing.len c.in_ok-all_met.all_met (omega arith) (omega arith) (omega arith)
    c.requires.table c.in_ok-relax_text.ensures before c.in_ok-relax_rests.ensures c.in_ok-all_met.ensures

pub returns-then-whole-last : goal.returns-then-whole-last
returns-then-whole-last g c =
    let Γ = setting (g.M.Measure.model c.args.rules.now.measure.now) (g.S.Sorting.model c.args.rules.now.sorting.now) in
    let before = subst (λ (ts : List Tree). Before Γ c.relax_text.new.list c.args.last c.relax_text.new.listing.len ts c.relax_before.new.list c.relax_before.new.listing.len (Ok (tt {0}))) c.as_slice.ensures c.in_ok-relax_before.ensures in
    around_advances c.requires.kept.sound c.args.list.now c.relax_text.new.list c.relax_before.new.list c.relax_rests.new.list c.relax_trees.new.list c.args.trees.now c.relax_trees.new.trees
    c.args.whole c.args.last c.args.listing.now.len c.relax_text.new.listing.len c.relax_before.new.listing.len c.relax_rests.new.listing.len c.relax_trees.new.listing.len c.in_ok-all_met.all_met (omega arith) (omega arith) (omega arith)
    c.requires.table c.in_ok-relax_text.ensures before c.in_ok-relax_rests.ensures c.in_ok-all_met.ensures (omega (arith, c.if-whole-last.true)) c.if-all_met.true
