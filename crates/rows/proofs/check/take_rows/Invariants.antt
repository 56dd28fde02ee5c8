use Rattle.std.proofs.Common.{◌≡◌, length, take}
use Rattle.rows.specs.Checking.{GoodFront}
use Rattle.rows.proofs.check.take_rows.Given as goal

abbrev pub invariant-loop-i : goal.invariant-loop-i
invariant-loop-i l = GoodFront l.raws l.i (take l.i l.rows) × (length l.rows ≡ length l.initial.rows)
