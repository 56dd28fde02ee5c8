use Rattle.std.proofs.Common.{get_or}
use Rattle.survey.specs.declared.types.Sort.{Sort}
use Rattle.writer.specs.Shows.{Copied}
use Rattle.writer.proofs.fill.Given as goal

abbrev pub invariant-loop-k : goal.invariant-loop-k
invariant-loop-k g l = (d : Sort g.row.C.Denot) → Copied (λ k. get_or l.sorts k d) l.table l.k
