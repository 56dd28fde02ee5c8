use Rattle.worked.proofs.standing_examples.Goals as goal
use Rattle.worked.proofs.Standings.{standings, as_expression}

pub returns : goal.returns
returns c = record { exact = standings; definitions = as_expression }
