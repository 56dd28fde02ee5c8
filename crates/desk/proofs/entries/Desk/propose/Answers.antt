use Rattle.std.proofs.Common.{◌≡◌, ℕ, List, sym, ap, ◌∙◌, subst, inl, inr}
use Rattle.std.proofs.lemmas.Result.{err_from_is_err_and}
use Rattle.law.specs.Calls.{Held, Lent}
use Rattle.stream.specs.Stream.{a_sheet}
use Rattle.desk.specs.Handling.{Outcome, refusal, no_rows, not_sound, proposed}
use Rattle.desk.specs.Steps.{NotASheet}
use Rattle.desk.proofs.entries.Desk.propose.Goals as goal

-- A body that is no sound sheet.
refused_sheet : {L : Type 0} (s : Held) (given : Lent L) (body : List ℕ) (n p : ℕ) → NotASheet body n p → Outcome s given a_sheet body (refusal n p) s given
refused_sheet s given body n p (inl w) =
    let e : refusal 9 0 ≡ refusal n p = ap (λ m. refusal m 0) (sym w.1) ∙ ap (λ q. refusal n q) (sym w.2) in
    subst (λ fs. Outcome s given a_sheet body fs s given) e (no_rows w.0)
refused_sheet s given body n p (inr w) = not_sound w.are_laid w.is_body w.due

pub returns-clause-outcome : goal.returns-clause-outcome
returns-clause-outcome c =
    let s = c.in_ok-check_sheet.ensures in
    proposed s.are_laid s.is_body s.passes c.propose.ensures.told

pub returns-in_err-check_sheet-clause-outcome : goal.returns-in_err-check_sheet-clause-outcome
returns-in_err-check_sheet-clause-outcome c =
    let r = c.from_residual in
    let p = err_from_is_err_and r.result r.ensures.1 in
    rw (p.1, p.2) (refused_sheet _ _ _ _ _ c.in_err-check_sheet.ensures)
