-- A step by one measure is a step by a combination that holds it.
use Rattle.std.proofs.Common.{◌≡◌, ℕ, Bool, List, Ok, Err, Result, sym, refl, ap, ◌∙◌, subst, inl, inr}
use Rattle.std.proofs.Math.Option.{Option, none, some}
use Rattle.forest.specs.Forest.{Forest}
use Rattle.rows.specs.Sheet.{Sheet}
use Rattle.measure.specs.declared.either.Either.TheVariants.{One, Other}
use Rattle.measure.specs.Measure.{Costs, cost_of}
use Rattle.measure.specs.Eithers.{either_costs, CostsAlike}
use Rattle.law.specs.declared.Declined.{Declined}
use Rattle.law.specs.declared.Declined.TheVariants.{Refused, Loses}
use Rattle.judge.specs.Judging.{Told}
use Rattle.law.specs.Calls.{Held, Lent, Reason, refusal, loss, reason, Fails, DeclinedForLoss, propose_checks, Proposing, Proposed, after_proposing}
use Rattle.law.specs.Law.{Event, proposed, filed, fetched, Step}
use Rattle.law.specs.Mixing.{declined_as, answered_as, called_as, Mixes}

abbrev reason_as : {C D : Type 0} → (C → D) → Reason C → Reason D
reason_as f (refusal n p) = refusal n p
reason_as f (loss n c size shown) = loss n (f c) size shown

reason_is : {C D : Type 0} (f : C → D) (d : Declined C) → reason (declined_as f d) ≡ reason_as f (reason d)
reason_is f (Refused x) = refl
reason_is f (Loses l) = refl

after_is : {C D : Type 0} (f : C → D) (s : Held) (sheet : Sheet) (answer : Result ℕ (Declined C)) → after_proposing s sheet answer ≡ after_proposing s sheet (answered_as f answer)
after_is f s sheet (Ok k) = refl
after_is f s sheet (Err d) = refl

module _ {C D L : Type 0} (f : C → D) (p : Costs C) (q : Costs D) (same : (g : Forest) → cost_of q.rules g ≡ f (cost_of p.rules g)) (mono : (a b : C) → p.le a b → q.le (f a) (f b)) (sheet : Sheet) (given left : Lent L) where
  told_as : (old : Sheet) (c : C) (n : ℕ) (shown : Bool) (buffer buffer' : List ℕ) → Told p old sheet c n shown buffer buffer' → Told q old sheet (f c) n shown buffer buffer'
  told_as old c n shown buffer buffer' t = record {
    one = t.one;
    lost = t.lost;
    cost_is = ap f t.cost_is ∙ sym (same t.one);
    size_is = t.size_is;
    shows = t.shows;
    least = λ g l. subst (λ (x : D). q.le (f c) x) (sym (same g)) (mono c (cost_of p.rules g) (t.least g l));
  }

  told_why : (d : Declined C) (r : Reason C) → reason d ≡ r → reason (declined_as f d) ≡ reason_as f r
  told_why d r e = reason_is f d ∙ ap (reason_as f) e

  loss_as : (old : Sheet) (d : Declined C) → DeclinedForLoss p sheet given left old d → DeclinedForLoss q sheet given left old (declined_as f d)
  loss_as old d l = record {
    cost = f l.cost;
    size = l.size;
    shown = l.shown;
    tells = told_why d (loss 36 l.cost l.size l.shown) l.tells;
    told = told_as old l.cost l.size l.shown given.show left.show l.told;
  }

  fails_as : (x : Option Sheet) (editions free : ℕ) (d : Declined C) → Fails (propose_checks p sheet given left x editions free) d → Fails (propose_checks q sheet given left x editions free) (declined_as f d)
  fails_as x editions free d (inl r) = inl (r.0, told_why d (refusal 20 0) r.1, r.2)
  fails_as x editions free d (inr (a, inl r)) = inr (a, inl (r.0, told_why d (refusal 30 0) r.1, r.2))
  fails_as none editions free d (inr (a, inr (b, r))) = absurd r
  fails_as (some old) editions free d (inr (a, inr (b, inl r))) = inr (a, inr (b, inl (r.0, told_why d (refusal 21 0) r.1, r.2)))
  fails_as (some old) editions free d (inr (a, inr (b, inr (k, inl r)))) = inr (a, inr (b, inr (k, inl (loss_as old d r))))
  fails_as (some old) editions free d (inr (a, inr (b, inr (k, inr (l, r))))) = absurd r

  proposing_as : (x : Option Sheet) (editions free : ℕ) (answer : Result ℕ (Declined C)) → Proposing p sheet given left x editions free answer → Proposing q sheet given left x editions free (answered_as f answer)
  proposing_as none editions free (Ok k) r = r
  proposing_as (some old) editions free (Ok k) r = r
  proposing_as x editions free (Err d) r = fails_as x editions free d r

  pub proposed_as : (s s' : Held) (answer : Result ℕ (Declined C)) → Proposed p s sheet given answer left s' → Proposed q s sheet given (answered_as f answer) left s'
  proposed_as s s' answer r = record {
    answers = proposing_as _ _ _ answer r.answers;
    leaves = r.leaves ∙ after_is f s sheet answer;
  }

pub mixes : {A B C D : Type 0} (L : Type 0) (p : A → Costs C) (q : B → Costs D) → CostsAlike p q → Mixes L p q
mixes {A} {B} {C} {D} L p q alike = record { one = one; other = other }
  where
    one : (e : Event A C L) (s s' : Held) → Step p e s s' → Step (either_costs p q) (called_as One One e) s s'
    one (proposed m sheet given answer left) s s' r = proposed_as One (p m) (either_costs p q (One m)) (alike.as_one m) (λ a b le. le) sheet given left s s' answer r
    one (filed body answer) s s' r = r
    one (fetched k buffer answer buffer') s s' r = r

    other : (e : Event B D L) (s s' : Held) → Step q e s s' → Step (either_costs p q) (called_as Other Other e) s s'
    other (proposed m sheet given answer left) s s' r = proposed_as Other (q m) (either_costs p q (Other m)) (alike.as_other m) (λ a b le. le) sheet given left s s' answer r
    other (filed body answer) s s' r = r
    other (fetched k buffer answer buffer') s s' r = r
