use Rattle.std.proofs.Common.{◌≡◌, take}
use Rattle.rows.specs.Sheet.{definitions}
use Rattle.sheet.proofs.Tabling.{HomesBelow}
use Rattle.sheet.proofs.numbered.NumberedRows.fill_homes.Given as goal

abbrev pub invariant-loop-e : goal.invariant-loop-e
invariant-loop-e l = (l.count ≡ definitions (take l.e l.self.rows.now)) × HomesBelow l.self.rows.now l.e l.homes
