use Rattle.sheet.specs.Standing.{SetOf}
use Rattle.sheet.specs.Compiled.{TextAt, NamedAt, AnyAt}
use Rattle.sheet.proofs.Tabling.{Reached}
use Rattle.sheet.proofs.numbered.NumberedRows.leaves.Given as goal

abbrev pub invariant-loop-p : goal.invariant-loop-p
invariant-loop-p l = SetOf l.self.rows.now l.texts (Reached (TextAt l.self.rows.now) l.p) × SetOf l.self.rows.now l.named (Reached (NamedAt l.self.rows.now) l.p)
    × SetOf l.self.rows.now l.anys (Reached (AnyAt l.self.rows.now) l.p)
