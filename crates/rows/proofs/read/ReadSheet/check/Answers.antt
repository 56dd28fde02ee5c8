use Rattle.std.proofs.Common.{ℕ, ◌≤◌, length, take, subst, arith, rules}
use Rattle.std.proofs.lemmas.List.{length-take-le}
use Rattle.std.proofs.lemmas.Result.{err_from_is_err_and}
use Rattle.rows.specs.Sheet.{Sheet}
use Rattle.rows.specs.Checking.{GoodRows, Passes, over_all}
use Rattle.rows.specs.Checked.{raws_of}
use Rattle.rows.specs.declared.read.ReadSheet.{ReadSheet}
use Rattle.rows.proofs.Sounding.{made_sound}
use Rattle.rows.proofs.read.ReadSheet.check.Goals.{In_ok-check_whole}
use Rattle.rows.proofs.read.ReadSheet.check.Goals as goal

-- The rows taken in are as many as were read.
trimmed : (read : ReadSheet) (rows : Sheet) → read.count ≤ length read.rows
    → GoodRows (raws_of read) (take (length (raws_of read)) rows) → GoodRows (raws_of read) (take read.count rows)
trimmed read rows h g = subst (λ (m : ℕ). GoodRows (raws_of read) (take m rows)) (length-take-le read.count read.rows h) g

-- What passed every check.
passed : (c : In_ok-check_whole) → Passes (raws_of c.args.self.now) (take c.args.self.now.count c.take_rows.new.rows)
passed c =
    let read = c.args.self.now in
    let h : c.args.self.now.count ≤ length c.args.self.now.rows = search rules in
    let q = length-take-le read.count read.rows h in
    let f = read.filled in
    let m = read.short in
    let g = trimmed read c.take_rows.new.rows h c.in_ok-take_rows.ensures in
    record {
      say = g.say;
      sound = made_sound (raws_of read) (take read.count c.take_rows.new.rows) c.check_whole.new.numbers (omega arith) (omega arith) g c.in_ok-check_whole.ensures;
    }

pub returns-in_err-check_whole-clause-answer : goal.returns-in_err-check_whole-clause-answer
returns-in_err-check_whole-clause-answer c =
    let p = err_from_is_err_and c.from_residual-in_err-check_whole.result c.from_residual-in_err-check_whole.ensures.1 in
    let g = trimmed c.args.self.now c.take_rows.new.rows (search rules) c.in_ok-take_rows.ensures in
    rw (p.1, p.2) (over_all g c.in_err-check_whole.ensures)

pub invariant_of-result : goal.invariant_of-result
invariant_of-result c =
    let p = passed (goal.at.invariant_of-result c).In_ok-check_whole in
    record { short = c.args.self.now.short; sound = ∣ p.sound ∣₁; numbered = c.in_ok-check_whole.ensures.numbered }

pub returns-clause-answer : goal.returns-clause-answer
returns-clause-answer c =
    record {
      short = c.args.self.now.short;
      passes = passed (goal.at.returns-clause-answer c).In_ok-check_whole;
      numbered = c.in_ok-check_whole.ensures.numbered;
      long = search rules;
    }
