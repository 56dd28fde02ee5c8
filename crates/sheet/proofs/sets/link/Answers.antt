use Rattle.std.proofs.Common.{arith}
use Rattle.sheet.proofs.Walking.{keep_more, link_more}
use Rattle.sheet.proofs.sets.link.Goals as goal

pub loop-place-preserved : goal.loop-place-preserved
loop-place-preserved c =
    let l = c.loop-place in (
      keep_more l.table c.args.table.now c.args.from c.in-Some.place l.invariant.0,
      link_more l.table c.args.table.now c.args.from l.place-iterator.0 c.args.to c.in-Some.place c.next.new.self.0 (omega arith)
          c.in-Some.ensures.steps l.invariant.1,
    )
