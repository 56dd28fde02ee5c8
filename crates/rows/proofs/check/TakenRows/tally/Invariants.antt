use Rattle.std.proofs.Common.{◌≡◌, ℕ, get_or}
use Rattle.rows.specs.Parts.{uses}
use Rattle.rows.proofs.check.TakenRows.tally.Given as goal

abbrev pub invariant-loop-row : goal.invariant-loop-row
invariant-loop-row l = (a : ℕ) → get_or l.used a 0 ≡ uses l.fn.self.rows.now l.row-index a
