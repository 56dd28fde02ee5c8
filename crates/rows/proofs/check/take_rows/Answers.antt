use Rattle.std.proofs.Common.{refl, ◌∙◌, arith, length-set}
use Rattle.std.proofs.lemmas.Result.{err_from_is_err_and}
use Rattle.rows.specs.Raw.{RawRow}
use Rattle.rows.proofs.Checks.{front_none, front_more, front_ends}
use Rattle.rows.proofs.check.take_rows.Goals as goal

abbrev blank : RawRow
blank = record { kind = 0; first = 0; second = 0; third = 0 }

pub loop-i-init : goal.loop-i-init
loop-i-init c = (front_none c.args.raws.now, refl)

pub returns-in_err-row : goal.returns-in_err-row
returns-in_err-row c =
    let p = err_from_is_err_and c.from_residual.result c.from_residual.ensures.1 in
    rw (p.1, p.2)
    (front_ends c.args.raws.now c.loop-i.rows c.loop-i.i blank c.in_err-row.field-0.0 c.loop-i-test.true (omega arith) c.loop-i.invariant.0 c.in_err-row.ensures)

pub loop-i-preserved : goal.loop-i-preserved
loop-i-preserved c = (
  front_more c.args.raws.now c.loop-i.rows c.loop-i.i blank c.in_ok-row.row c.loop-i-test.true (omega arith) c.loop-i.invariant.0 c.in_ok-row.ensures,
  length-set c.loop-i.rows c.loop-i.i c.in_ok-row.row ∙ c.loop-i.invariant.1,
)
