use Rattle.std.proofs.Common.{mod-eq_of_lt, arith}
use Rattle.std.proofs.lemmas.Fmt.{decimal_digit, decimal_step}
use Rattle.stream.proofs.Writes.{adds_more}
use Rattle.stream.proofs.buffer.LineBuffer.+digits.Goals as goal
use Rattle.stream.proofs.buffer.LineBuffer.+digits.Goals.{then-n-ge10, else-n-ge10}

pub returns : goal.returns
returns t c = elim c.if-n-ge10.branch [
  | then-n-ge10 w ↦ rw (decimal_step c.args.n w.if-n-ge10.true (omega arith))
      (adds_more w.digits.ensures (rw w.self-is at c.byte.ensures))
  | else-n-ge10 w ↦ rw (decimal_digit c.args.n w.if-n-ge10.false)
      (rw (w.self-is, mod-eq_of_lt w.if-n-ge10.false) at c.byte.ensures)
]
