use Rattle.law.proofs.Determined.{one_outcome}
use Rattle.law.proofs.calls_have_one_outcome.Goals as goal

pub returns : goal.returns
returns g c = one_outcome _ g.M.Measure.model
