use Rattle.std.proofs.Common.{lit<}
use Rattle.judge.proofs.sorting.PairSorting.of_text.Goals as goal

pub returns : goal.returns
returns c f counted h = (((tt, lit< tt), counted), λ t whole. (c.of_text.ensures t f h.0, c.of_text-2.ensures t f h.1))
