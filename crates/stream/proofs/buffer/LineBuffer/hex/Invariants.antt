use Rattle.std.proofs.Common.{take}
use Rattle.stream.proofs.buffer.LineBuffer.hex.Given as goal
use Rattle.stream.specs.Writing.{Adds}
use Rattle.stream.specs.Written.{hex}

abbrev pub invariant-loop-b : goal.invariant-loop-b
invariant-loop-b l = Adds l.initial.self (hex (take l.b-index l.bytes)) l.self
