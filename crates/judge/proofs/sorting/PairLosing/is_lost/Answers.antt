use Rattle.judge.proofs.Telling.{admitted}
use Rattle.judge.proofs.sorting.PairLosing.is_lost.Goals as goal

pub returns-then-admits : goal.returns-then-admits
returns-then-admits c = admitted c.args.self.now c.args.standings c.admits.result c.admits-then-admits.result c.admits.ensures c.admits-then-admits.ensures c.if-admits.true
