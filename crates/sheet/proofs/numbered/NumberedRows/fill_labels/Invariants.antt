use Rattle.sheet.specs.Compiled.{Labels}
use Rattle.sheet.proofs.numbered.NumberedRows.fill_labels.Given as goal

abbrev pub invariant-loop-p : goal.invariant-loop-p
invariant-loop-p l = Labels l.self.rows.now l.p l.labels
