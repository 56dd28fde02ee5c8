use Rattle.sheet.specs.Standing.{a_node}
use Rattle.judge.proofs.sorting.PairSorting.before.Goals as goal

pub returns : goal.returns
returns c l k f whole leaves h = (c.put_before.ensures (a_node l k) f leaves.0 h.0, c.put_before-2.ensures (a_node l k) f leaves.1 h.1)
