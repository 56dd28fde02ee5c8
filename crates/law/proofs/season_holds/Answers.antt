use Rattle.law.proofs.Seasons.{season_lawful}
use Rattle.law.proofs.season_holds.Goals as goal

pub returns : goal.returns
returns g c = season_lawful _ _ _ g.M.Measure.model
