use Rattle.std.proofs.Common.{◌+◌, ◌∙◌, length, refl, arith}
use Rattle.std.proofs.lemmas.Slice.{drop-put_mid}
use Rattle.stream.proofs.Writes.{blank_past}
use Rattle.stream.proofs.buffer.LineBuffer.bytes.Goals as goal

pub invariant_of-self-clause-blank : goal.invariant_of-self-clause-blank
invariant_of-self-clause-blank c =
    let s = c.args.self.now in
    let e = s.count + length c.args.text.now in
    drop-put_mid s.count _ s.line c.copy_from_slice.new.self e (omega arith) (omega arith) (omega arith)
    ∙ blank_past 8320 s.line s.count (length c.args.text.now) e refl s.blank
