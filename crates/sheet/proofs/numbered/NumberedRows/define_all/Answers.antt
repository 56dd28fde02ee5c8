use Rattle.std.proofs.Common.{ℕ, ◌+◌, List, sym, ap, ◌∙◌, subst}
use mathlib.Core.Option.{some}
use Rattle.rows.specs.declared.row.Row.TheVariants.{Empty as empty}
use Rattle.sheet.specs.Standing.{SetOf}
use Rattle.sheet.specs.Shapes.{EndsBelow, LeadsBelow}
use Rattle.sheet.specs.Compiled.{Tabled}
use Rattle.rows.proofs.Numbers.{at_get_or}
use Rattle.rows.proofs.Taking.{same_row}
use Rattle.sheet.proofs.Tabling.{ends_more, ends_stay, leads_more, leads_stay}
use Rattle.sheet.proofs.numbered.NumberedRows.define_all.Goals as goal
use Rattle.sheet.proofs.numbered.NumberedRows.define_all.Goals.{in-Def, in_default}

pub define-ends-requires : goal.define-ends-requires
define-ends-requires c =
    at_get_or c.args.self.rows.now c.loop-e.e empty c.loop-e-test.true ∙ ap some (rw c.from.ensures c.in-Def.is)

pub loop-e-preserved : goal.loop-e-preserved
loop-e-preserved c =
    let s = c.args.self.rows.now in
    let e = c.loop-e.e in
    let i = at_get_or s e empty c.loop-e-test.true in
    let inv = c.loop-e.invariant in
    elim c.match-row.branch [
      | in-Def w ↦
          let j = i ∙ ap some (rw w.from.ensures w.in-Def.is) in (
            subst (λ (m : ℕ). SetOf c.args.self.rows.now m (EndsBelow c.args.self.rows.now (c.loop-e.e + 1))) (sym w.ends-is) (ends_more e w.from.result j inv.0 w.define-ends.ensures.ends),
            subst (λ (t : List ℕ). Tabled c.args.self.rows.now t (LeadsBelow c.args.self.rows.now (c.loop-e.e + 1))) (sym w.before-is) (leads_more e w.from.result j inv.1 w.define-ends.ensures.grown),
          )
      | in_default w ↦ (
        subst (λ (m : ℕ). SetOf c.args.self.rows.now m (EndsBelow c.args.self.rows.now (c.loop-e.e + 1))) (sym w.ends-is) (ends_stay e (λ x j. w.in_default.not-Def x (same_row (sym i ∙ j))) inv.0),
        subst (λ (t : List ℕ). Tabled c.args.self.rows.now t (LeadsBelow c.args.self.rows.now (c.loop-e.e + 1))) (sym w.before-is) (leads_stay e (λ x j. w.in_default.not-Def x (same_row (sym i ∙ j))) inv.1),
      )
    ]
