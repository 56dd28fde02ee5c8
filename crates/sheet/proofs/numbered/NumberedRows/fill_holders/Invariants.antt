use Rattle.sheet.specs.Compiled.{HoldsBelow, Tabled}
use Rattle.sheet.proofs.numbered.NumberedRows.fill_holders.Given as goal

abbrev pub invariant-loop-p : goal.invariant-loop-p
invariant-loop-p l = Tabled l.self.rows.now l.holders (HoldsBelow l.self.rows.now l.p)
