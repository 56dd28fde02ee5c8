use Rattle.std.proofs.Common.{◌+◌, ◌∙◌, refl, arith}
use Rattle.std.proofs.lemmas.List.{drop-set-lt}
use Rattle.stream.proofs.Writes.{blank_past}
use Rattle.stream.proofs.buffer.LineBuffer.byte.Goals as goal

pub invariant_of-self-clause-blank : goal.invariant_of-self-clause-blank
invariant_of-self-clause-blank c =
    let s = c.args.self.now in
    drop-set-lt (s.count + 1) s.line s.count c.args.b (omega arith) ∙ blank_past 8320 s.line s.count 1 (s.count + 1) refl s.blank
