use Rattle.std.proofs.Common.{◌+◌, length, arith}
use Rattle.survey.specs.KeptTrees.{tree_at}
use Rattle.survey.proofs.Loops.{grown_cap}
use Rattle.survey.proofs.KeptTrees.{over_move, joined_more}
use Rattle.survey.proofs.relax.relax_before.Goals as goal

pub relax_node-requires-clause-over : goal.relax_node-requires-clause-over
relax_node-requires-clause-over g c =
    over_move _ _ (c.args.last + 1) (c.args.last + 1) (tree_at c.args.trees.now c.loop-tree.tree-index) (omega arith) c.loop-tree.invariant.0.same (c.requires.over c.loop-tree.tree-index (omega arith))

pub loop-tree-preserved : goal.loop-tree-preserved
loop-tree-preserved g c =
    let so = c.requires.kept.sound in
    let z = c.in_ok-relax_node.ensures in
    joined_more so _ _ _
    c.args.last c.args.listing.now.len c.loop-tree.listing.len c.relax_node.new.listing.len (length c.args.list.now) c.loop-tree.tree-index (tree_at c.args.trees.now) (λ _. c.args.last)
    (λ k lt. (c.requires.over k (omega arith)).content) (λ k lt. omega arith)
    c.loop-tree.invariant.0 c.loop-tree.invariant.1 (grown_cap (omega arith) z.0) z.1

pub returns : goal.returns
returns g c = (c.loop-tree.invariant.0, λ k h. c.loop-tree.invariant.1 k (omega arith))
