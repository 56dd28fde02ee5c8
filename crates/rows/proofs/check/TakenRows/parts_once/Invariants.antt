use Rattle.std.proofs.Common.{ℕ, ◌<◌}
use Rattle.rows.specs.Checking.{OnceAPart}
use Rattle.rows.proofs.check.TakenRows.parts_once.Given as goal

abbrev pub invariant-loop-a : goal.invariant-loop-a
invariant-loop-a l = (q : ℕ) → q < l.a → OnceAPart l.fn.self.rows.now q
