use Rattle.std.proofs.Common.{ℕ, ◌⊎◌, ◌↔◌}
use Rattle.sheet.specs.Standing.{Bit}
use Rattle.sheet.proofs.Walking.{Among}
use Rattle.sheet.proofs.sets.gather.Given as goal

abbrev pub invariant-loop-place : goal.invariant-loop-place
invariant-loop-place l = (i : ℕ) → (Bit i l.all ⊎ Among l.table l.place-iterator.0 i) ↔ Among l.table l.set i
