use Rattle.std.proofs.Common.{ℕ, ◌+◌, ◌<◌, List, length, sym, ap, ◌∙◌, subst, arith}
use mathlib.Core.Option.{some}
use Rattle.rows.specs.Sheet.{a_leaf, leaf_named}
use Rattle.rows.specs.declared.row.Row.TheVariants.{Empty as empty}
use Rattle.sheet.specs.Compiled.{Labels}
use Rattle.rows.proofs.Numbers.{at_get_or}
use Rattle.rows.proofs.Taking.{same_row}
use Rattle.sheet.proofs.Tabling.{number_small, label_more, label_stay}
use Rattle.sheet.proofs.numbered.NumberedRows.fill_labels.Goals as goal
use Rattle.sheet.proofs.numbered.NumberedRows.fill_labels.Goals.{in-Named, in_default}

pub bounds-labels-from : goal.bounds-labels-from
bounds-labels-from c =
    let s = c.args.self.rows.now in
    let h = c.loop-p-test.true in
    let i = at_get_or s c.loop-p.p empty h ∙ ap some c.in-Named.is in
    let b = number_small s c.args.self.numbers.now c.loop-p.p c.args.self.ready h (a_leaf (leaf_named i)) in
    omega arith

pub loop-p-preserved : goal.loop-p-preserved
loop-p-preserved c =
    let s = c.args.self.rows.now in
    let p = c.loop-p.p in
    let h = c.loop-p-test.true in
    let i = at_get_or s p empty h in
    elim c.match-row.branch [
      | in-Named w ↦
          let j = i ∙ ap some w.in-Named.is in
          let b = number_small s c.args.self.numbers.now p c.args.self.ready h (a_leaf (leaf_named j)) in
          let q = w.from.ensures in
          let n : w.from.result < length c.loop-p.labels = omega arith in
          subst (λ (ls : List ℕ). Labels c.args.self.rows.now (c.loop-p.p + 1) ls) (sym w.labels-is)
          (label_more s c.loop-p.labels p _ w.in-Named.label w.in-Named.field-1 j (w.from.ensures ∙ c.args.self.ready.numbered p h) n c.loop-p.invariant)
      | in_default w ↦
          subst (λ (ls : List ℕ). Labels c.args.self.rows.now (c.loop-p.p + 1) ls) (sym w.labels-is)
          (label_stay s c.loop-p.labels p (λ l d j. w.in_default.not-Named l d (same_row (sym i ∙ j))) c.loop-p.invariant)
    ]
