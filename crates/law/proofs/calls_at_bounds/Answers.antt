use Rattle.law.proofs.Bounds.{call_bounds}
use Rattle.law.proofs.calls_at_bounds.Goals as goal

pub returns : goal.returns
returns g c = call_bounds _ g.M.Measure.model
