use Rattle.worked.proofs.Lines.{fronts, lines}
use Rattle.worked.proofs.line_examples.Goals as goal

pub returns : goal.returns
returns c = record { fronts = fronts; lines = lines }
