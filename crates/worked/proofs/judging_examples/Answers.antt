use Rattle.worked.proofs.Judgements.{judgements}
use Rattle.worked.proofs.judging_examples.Goals as goal

pub returns : goal.returns
returns c = judgements
