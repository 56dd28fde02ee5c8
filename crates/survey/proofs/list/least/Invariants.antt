use Rattle.std.proofs.Common.{◌<◌, ◌≤◌}
use Rattle.survey.proofs.list.least.Given as goal
use Rattle.survey.specs.Steps.{LeastIn}

abbrev pub invariant-loop-i : goal.invariant-loop-i
invariant-loop-i g l = (l.from ≤ l.best) × (l.best < l.i) × LeastIn (g.O.Order.ranking l.order).le l.list l.from l.i l.best
