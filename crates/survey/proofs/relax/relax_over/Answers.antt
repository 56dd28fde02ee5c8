use Rattle.std.proofs.Common.{length, arith}
use Rattle.survey.proofs.Loops.{grown_cap}
use Rattle.survey.proofs.KeptTrees.{joined_more}
use Rattle.survey.proofs.relax.relax_over.Goals as goal

pub loop-k-preserved : goal.loop-k-preserved
loop-k-preserved g c =
    let so = c.requires.kept.sound in
    let z = c.in_ok-relax_node.ensures in
    joined_more so _ _ _
    c.args.last c.args.listing.now.len c.loop-k.listing.len c.relax_node.new.listing.len (length c.args.list.now) c.loop-k.k (λ _. c.args.tree) (λ k. k)
    (λ k lt. c.requires.over.content) (λ k lt. omega arith)
    c.loop-k.invariant.0 c.loop-k.invariant.1 (grown_cap (omega arith) z.0) z.1

pub returns : goal.returns
returns g c = (c.loop-k.invariant.0, λ k h. c.loop-k.invariant.1 k (omega arith))
