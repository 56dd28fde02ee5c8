use Rattle.std.proofs.Common.{arith}
use Rattle.sheet.proofs.Bits.{lowest}
use Rattle.sheet.proofs.sets.MembersIterator.next.Goals as goal

pub returns-clause-steps : goal.returns-clause-steps
returns-clause-steps c =
    let l = lowest 64 c.args.self.now.0 (omega arith) (omega arith) in
    (l.within, l.fewer, l.members)
