use Rattle.worked.proofs.Handing.{handing}
use Rattle.worked.proofs.handing_examples.Goals as goal

pub returns : goal.returns
returns c = handing
