use Rattle.std.proofs.Common.{◌≡◌, take}
use Rattle.rows.specs.Raw.{laid}
use Rattle.rows.proofs.Reading.{joined}
use Rattle.rows.proofs.read.fill.Given as goal

abbrev pub invariant-loop-i : goal.invariant-loop-i
invariant-loop-i l = laid (take l.i l.rows) ≡ joined (take l.i l.raws)
