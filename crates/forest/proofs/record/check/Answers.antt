use Rattle.std.proofs.Common.{◌≡◌, ℕ, ◌<◌, ◌≤◌, List, length, get_or, sym, ◌∙◌, subst, inl, inr, zero-add, arith, rules}
use Rattle.std.proofs.lemmas.Result.{err_from_is_err_and}
use Rattle.forest.specs.Reading.{Due, too_long, within, DueWithin}
use Rattle.forest.specs.Steps.{Refused}
use Rattle.forest.proofs.Stretches.{refused_after, refused_here, stray}
use Rattle.forest.proofs.record.check.Goals as goal

-- A refusal from the front on is due.
due : (b : List ℕ) (n p : ℕ) → length b ≤ 4096 → Refused 0 b 0 n p → Due b n p
due b n p l r =
    let e : r.offset ≡ p = sym (zero-add r.offset) ∙ sym r.place_is in
    within l (subst (λ (o : ℕ). DueWithin 0 b n o) e r.due)

pub returns-then-body-gt-MOST_BYTES : goal.returns-then-body-gt-MOST_BYTES
returns-then-body-gt-MOST_BYTES c = too_long (search rules)

pub returns-in_err-end : goal.returns-in_err-end
returns-in_err-end c =
    let p = err_from_is_err_and c.from_residual.result c.from_residual.ensures.1 in
    rw (p.1, p.2) (due c.args.body.now _ _ (search rules) c.in_err-end.ensures)

pub returns-then-end-body : goal.returns-then-end-body
returns-then-end-body c =
    let w = c.in_ok-end.ensures in
    let l : c.in_ok-end.end < length c.args.body.now = search rules in
    let o : get_or c.args.body.now c.in_ok-end.end 0 ≡ 2 = elim w.1 [ inl x ↦ absurd (omega arith) | inr x ↦ x ] in
    due c.args.body.now 7 c.in_ok-end.end (search rules)
    (refused_after 64 0 c.args.body.now 0 c.in_ok-end.end 7 c.in_ok-end.end (omega arith) w.0
    (refused_here 0 c.args.body.now c.in_ok-end.end 7 (stray c.args.body.now c.in_ok-end.end l o)))
