use Rattle.law.proofs.Mixed.{mixes}
use Rattle.law.proofs.kinds_mix.Goals as goal

pub returns : goal.returns
returns g c = mixes _ g.A.Measure.model g.B.Measure.model c.either_costs_alike.ensures
