use Rattle.worked.proofs.Costs.{priced, at_ceiling, texts_first, breaks_a_law}
use Rattle.worked.proofs.cost_examples.Goals as goal

pub returns : goal.returns
returns c = record { costs = priced; ceiling = at_ceiling; texts = texts_first; laws = breaks_a_law }
