use Rattle.std.proofs.Common.{sym, refl, ap, ◌∙◌, below_more}
use mathlib.Core.Option.{some}
use Rattle.rows.specs.Sheet.{empty}
use Rattle.rows.specs.Checking.{OnceAPart, is_definition}
use Rattle.rows.proofs.Numbers.{at_get_or, definition_row, not_definition}
use Rattle.rows.proofs.Tallies.{zeros, once_used, used_once}
use Rattle.rows.proofs.check.TakenRows.parts_once.Goals as goal
use Rattle.rows.proofs.check.TakenRows.parts_once.Goals.{else-not-once-via-then-not-once+else-not-is_definition, else-not-once-via-else-not-once}

pub tally-requires : goal.tally-requires
tally-requires c = λ a. zeros 128 a

pub returns-then-not-is_definition : goal.returns-then-not-is_definition
returns-then-not-is_definition c =
    let s = c.args.self.rows.now in
    let i = at_get_or s c.loop-a.a empty c.loop-a-test.true in (
      refl,
      record {
        within = c.loop-a-test.true;
        below = c.loop-a.invariant;
        fails = λ z. c.if-not-once.true
            (c.tally.ensures c.loop-a.a
            ∙ used_once s c.loop-a.a (not_definition s c.loop-a.a _ i (sym c.if-not-is_definition.ensures)) z);
      },
    )

pub loop-a-preserved : goal.loop-a-preserved
loop-a-preserved c =
    let s = c.args.self.rows.now in
    let i = at_get_or s c.loop-a.a empty c.loop-a-test.true in
    below_more (OnceAPart s) c.loop-a.a c.loop-a.invariant
    (elim c.else-not-once.branch [
      | else-not-once-via-then-not-once+else-not-is_definition w ↦
          let d = definition_row _ (sym w.if-not-is_definition.ensures) in is_definition (i ∙ ap some d.1)
      | else-not-once-via-else-not-once w ↦ once_used s c.loop-a.a (sym (c.tally.ensures c.loop-a.a) ∙ w.if-not-once.false)
    ])
