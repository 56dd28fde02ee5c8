use Rattle.rows.specs.Parts.{KeptBelow}
use Rattle.sheet.proofs.Walking.{Grows}
use Rattle.sheet.proofs.sets.link.Given as goal

abbrev pub invariant-loop-place : goal.invariant-loop-place
invariant-loop-place l = KeptBelow l.from l.initial.table l.table × Grows l.table l.initial.table l.from l.place-iterator.0 l.to
