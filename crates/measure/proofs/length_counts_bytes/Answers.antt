use Rattle.measure.proofs.Lengths.{counts_bytes}
use Rattle.measure.proofs.length_counts_bytes.Goals as goal

pub returns : goal.returns
returns c = counts_bytes
