use Rattle.std.proofs.Common.{rules}
use Rattle.std.proofs.iter.runs.Made.{chains}
use Rattle.rows.proofs.Numbers.{definitions_count_by}
use Rattle.rows.proofs.check.count_definitions.Goals as goal

pub returns : goal.returns
returns c = rw (definitions_count_by c.args.rows.now) (search (rules, chains))
