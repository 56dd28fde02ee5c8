use Rattle.sheet.proofs.Walking.{gather_more}
use Rattle.sheet.proofs.sets.gather.Goals as goal

pub loop-place-preserved : goal.loop-place-preserved
loop-place-preserved c =
    gather_more c.args.table.now c.loop-place.place-iterator.0 c.loop-place.all c.args.set c.in-Some.place c.next.new.self.0
    c.in-Some.ensures.steps c.loop-place.invariant
