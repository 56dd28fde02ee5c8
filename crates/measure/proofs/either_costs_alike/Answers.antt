use Rattle.measure.specs.Combining.{costs_alike}
use Rattle.measure.proofs.either_costs_alike.Goals as goal

pub returns : goal.returns
returns g c = costs_alike g.A.Measure.model g.B.Measure.model
