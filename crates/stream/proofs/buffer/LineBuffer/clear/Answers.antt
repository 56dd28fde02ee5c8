use Rattle.std.proofs.Common.{◌≡◌, ◌-◌, replicate, arith, rules}
use Rattle.stream.proofs.Writes.{cleared}
use Rattle.stream.proofs.buffer.LineBuffer.clear.Goals as goal

pub invariant_of-self-clause-blank : goal.invariant_of-self-clause-blank
invariant_of-self-clause-blank c =
    let s = c.args.self.now in
    let f : c.fill.new.self ≡ replicate s.count 0 = search rules in
    cleared 8320 s.line c.fill.new.self s.count (s.count - 0) (omega arith) s.within f s.blank
