use Rattle.std.proofs.Common.{ℕ, ◌<◌, length, sym, subst}
use Rattle.std.proofs.lemmas.Result.{err_from_is_err_and}
use Rattle.rows.specs.Sheet.{Sheet}
use Rattle.rows.specs.Checking.{ContentThere, WrongOverAll, not_once, not_there, too_many}
use Rattle.rows.proofs.Checks.{names_below}
use Rattle.rows.proofs.check.TakenRows.check_whole.Goals as goal

everywhere : (s : Sheet) → ((p : ℕ) → p < length s → ContentThere s p) → (p : ℕ) → ContentThere s p
everywhere s f p d n = f p (names_below n) d n

pub returns-in_err-parts_once : goal.returns-in_err-parts_once
returns-in_err-parts_once c =
    let p = err_from_is_err_and c.from_residual.result c.from_residual.ensures.1 in
    let w = c.in_err-parts_once.ensures in
    rw (p.1, p.2) (subst (λ (n : ℕ). WrongOverAll c.args.self.rows.now n c.in_err-parts_once.field-0.0.place) (sym w.0)
    (not_once w.1.within w.1.below w.1.fails))

pub returns-in_err-contents_there : goal.returns-in_err-contents_there
returns-in_err-contents_there c =
    let p = err_from_is_err_and c.from_residual-in_err-contents_there.result c.from_residual-in_err-contents_there.ensures.1 in
    let w = c.in_err-contents_there.ensures in
    rw (p.1, p.2) (subst (λ (n : ℕ). WrongOverAll c.args.self.rows.now n c.in_err-contents_there.field-0.0.place) (sym w.0)
    (not_there c.in_ok-parts_once.ensures w.1.within w.1.below w.1.fails))

pub returns-in_err-number_places : goal.returns-in_err-number_places
returns-in_err-number_places c =
    let p = err_from_is_err_and c.from_residual-in_err-number_places.result c.from_residual-in_err-number_places.ensures.1 in
    let w = c.in_err-number_places.ensures in
    rw (p.1, p.2) (subst (λ (n : ℕ). WrongOverAll c.args.self.rows.now n c.in_err-number_places.field-0.0.place) (sym w.0)
    (too_many c.in_ok-parts_once.ensures (everywhere c.args.self.rows.now c.in_ok-contents_there.ensures) w.1 w.2))

pub returns : goal.returns
returns c =
    record {
      once = c.in_ok-parts_once.ensures;
      there = everywhere c.args.self.rows.now c.in_ok-contents_there.ensures;
      few = c.in_ok-number_places.ensures.0;
      numbered = c.in_ok-number_places.ensures.1;
    }
