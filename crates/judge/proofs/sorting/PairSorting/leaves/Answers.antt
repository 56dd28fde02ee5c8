use Rattle.judge.proofs.sorting.PairSorting.leaves.Goals as goal

pub returns : goal.returns
returns c k counted h = (c.node_leaves.ensures k h.0, c.node_leaves-2.ensures k h.1)
