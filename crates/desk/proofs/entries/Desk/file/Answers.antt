use Rattle.desk.specs.Handling.{filed}
use Rattle.desk.proofs.entries.Desk.file.Goals as goal

pub returns-clause-outcome : goal.returns-clause-outcome
returns-clause-outcome c = filed c.file.ensures.told
