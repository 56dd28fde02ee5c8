use Rattle.std.proofs.Common.{length, ap, ◌∙◌, inl, inr, arith}
use Rattle.std.proofs.Math.Option.{some}
use Rattle.rows.specs.declared.row.Row.{Row}
use Rattle.rows.specs.declared.row.Row.TheVariants.{Empty}
use Rattle.rows.proofs.Numbers.{at_get_or, at_below}
use Rattle.judge.proofs.Naming.{named_more, none_more}
use Rattle.judge.proofs.labels.Labels.add_named.Goals.{in-Named, in_default}
use Rattle.judge.proofs.labels.Labels.add_named.Goals as goal

pub loop-row-preserved : goal.loop-row-preserved
loop-row-preserved c =
    let rows = c.args.rows.now in
    let k = c.loop-row.row-index in
    let before = c.loop-row.invariant.names in
    let here = at_get_or rows k Empty (omega arith) in
    elim c.match-row.branch [
      | in-Named w ↦
          record {
            names = rw w.self-is (named_more rows k c.args.self.now c.loop-row.self before w.add.new.self w.in-Named.label w.in-Named.field-1 (here ∙ ap (λ (r : Row). some r) w.in-Named.is) w.add.ensures.names);
            few = omega (arith, ap length w.self-is, w.add.ensures.few, c.loop-row.invariant.few);
          }
      | in_default w ↦
          record {
            names = rw w.self-is (none_more rows k c.args.self.now c.loop-row.self before (λ l d is. w.in_default.not-Named l d (cc)));
            few = omega (arith, ap length w.self-is, c.loop-row.invariant.few);
          }
    ]

pub returns-clause-names : goal.returns-clause-names
returns-clause-names c m =
    let rows = c.args.rows.now in
    let before = c.loop-row.invariant.names m in (
      λ h. elim (before.0 h) [ inl a ↦ inl a | inr b ↦ inr (b.0, b.1, b.3) ],
      λ h. before.1 (elim h [ inl a ↦ inl a | inr b ↦ inr (b.0, b.1, omega (arith, at_below rows b.0 _ b.2), b.2) ]),
    )
