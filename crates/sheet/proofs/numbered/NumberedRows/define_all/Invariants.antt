use Rattle.sheet.specs.Standing.{SetOf}
use Rattle.sheet.specs.Shapes.{EndsBelow, LeadsBelow}
use Rattle.sheet.specs.Compiled.{Tabled}
use Rattle.sheet.proofs.numbered.NumberedRows.define_all.Given as goal

abbrev pub invariant-loop-e : goal.invariant-loop-e
invariant-loop-e l = SetOf l.self.rows.now l.ends (EndsBelow l.self.rows.now l.e) × Tabled l.self.rows.now l.before (LeadsBelow l.self.rows.now l.e)
