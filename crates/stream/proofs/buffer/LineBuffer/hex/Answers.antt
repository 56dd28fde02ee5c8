use Rattle.std.proofs.lemmas.List.{take_more}
use Rattle.stream.proofs.Writes.{adds_more, hex_append}
use Rattle.stream.proofs.buffer.LineBuffer.hex.Goals as goal

pub loop-b-preserved : goal.loop-b-preserved
loop-b-preserved c =
    let two = adds_more c.byte.ensures c.byte-in-loop-b.ensures in
    rw (take_more c.args.bytes.now c.loop-b.b-index 0 c.loop-b-test.true, hex_append)
    (adds_more c.loop-b.invariant (rw (c.hex_digit.ensures, c.hex_digit-in-loop-b.ensures) at two))
