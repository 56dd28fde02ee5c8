use Rattle.sheet.proofs.Walking.{Picked}
use Rattle.sheet.proofs.sets.pick.Given as goal

abbrev pub invariant-loop-place : goal.invariant-loop-place
invariant-loop-place l = Picked l.table l.label l.all l.place-iterator.0 l.set
