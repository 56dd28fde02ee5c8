use Rattle.std.proofs.lemmas.Nat.{one_shl}
use Rattle.sheet.proofs.Walking.{pick_more}
use Rattle.sheet.proofs.sets.pick.Goals as goal

pub loop-place-preserved-then-table-place : goal.loop-place-preserved-then-table-place
loop-place-preserved-then-table-place c =
    let l = c.loop-place in
    let w = c.in-Some.ensures.steps in
    pick_more c.args.table.now c.args.label l.all l.place-iterator.0 c.args.set _ c.in-Some.place c.next.new.self.0
    w l.invariant (one_shl c.in-Some.place 64 w.0) c.if-table-place.true
