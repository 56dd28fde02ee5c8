use Rattle.std.proofs.Common.{ℕ, ◌+◌, get_or, sym, ap, ◌∙◌, add-one, arith}
use mathlib.Core.Option.{Option, some}
use Rattle.rows.specs.Sheet.{Row, empty}
use Rattle.rows.specs.Parts.{uses, hits}
use Rattle.rows.proofs.Numbers.{at_get_or}
use Rattle.rows.proofs.Tallies.{fit_below, uses_most}
use Rattle.rows.proofs.check.TakenRows.tally.Goals as goal

pub tally_row-requires : goal.tally_row-requires
tally_row-requires c =
    let s = c.args.self.rows.now in
    let h = c.loop-row-test.true in record {
      below = fit_below s c.loop-row.row-index _ _ c.args.self.fitting (at_get_or s c.loop-row.row-index empty h) (omega arith);
      few = λ a. let m = uses_most s c.loop-row.row-index a in let q = c.loop-row.invariant a in omega arith;
    }

pub loop-row-preserved : goal.loop-row-preserved
loop-row-preserved c a =
    let s = c.args.self.rows.now in
    let h = c.loop-row-test.true in
    c.tally_row.ensures a ∙ ap (λ (n : ℕ). n + hits a (some (get_or s c.loop-row.row-index empty))) (c.loop-row.invariant a)
    ∙ ap (λ (o : Option Row). uses s c.loop-row.row-index a + hits a o) (sym (at_get_or s c.loop-row.row-index empty h))
    ∙ ap (λ (j : ℕ). uses s j a) (sym (add-one c.loop-row.row-index))
