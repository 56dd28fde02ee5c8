use Rattle.judge.proofs.Naming.{tries}
use Rattle.judge.proofs.Sheets.{labelled}
use Rattle.judge.proofs.pair.Pair.of.Goals as goal

pub invariant_of-result : goal.invariant_of-result
invariant_of-result c =
    let other = c.add_other.ensures in
    record {
      tries = ∣ rw other.1.2 (tries _ _ c.add_named.new.self c.add_named-2.new.self (rw (c.none-labels.ensures, c.rows.ensures) at c.add_named.ensures.names) (rw c.rows-2.ensures at c.add_named-2.ensures.names) (labelled c.args.old.now) (labelled c.args.new.now) other.0 other.1.0 other.1.1) ∣₁;
    }
