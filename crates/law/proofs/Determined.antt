-- A call has one answer.
use Rattle.std.specs.Prelude.{IsErrAnd}
use Rattle.std.proofs.Common.{◌≡◌, ℕ, List, length, Ok, Err, Result, sym, refl, ap, ◌∙◌, subst, inl, inr, arith}
use Rattle.std.proofs.Math.Option.{Option, none, some}
use Rattle.forest.specs.declared.fault.Fault.{Fault}
use Rattle.forest.specs.Refusals.{told}
use Rattle.forest.proofs.Numbers.{same_fault}
use Rattle.rows.specs.Sheet.{Sheet}
use Rattle.rows.specs.declared.row.Row.{Row}
use Rattle.measure.specs.Measure.{Costs}
use Rattle.law.specs.declared.Declined.{Declined}
use Rattle.law.specs.Calls.{Kept, Held, newest, numbered, free_rows, Lent, Passed, Fails, Giving, after_filing, Proposing, after_proposing, DeclinedForLoss, reason, refusal, judging_checks, propose_checks}
use Rattle.law.specs.Law.{History, Lawful, Fetching, FilingLaw}
use Rattle.law.specs.Follows.{Alike, both_accepted, both_refused, both_lost, OneAnswer, OneOutcome}
use Rattle.law.proofs.Seasons.{filing_lawful}
use Rattle.law.proofs.Counting.{one_record}

one_filing : (x : Option Sheet) (records free : ℕ) (body : List ℕ) (a b : Result ℕ Fault) → FilingLaw x records free body a → FilingLaw x records free body b → a ≡ b
one_filing x records free body (Ok k) b f g = ap Ok f.decided.1 ∙ sym (g.accepted f.decided.0)
one_filing x records free body (Err e) b f g = sym (g.refused e f.decided)

-- answers that are refusals of one number and place are one
same_refusal_told : {A : Type 0} (t : ℕ × ℕ) (a b : Result A Fault) → IsErrAnd a (λ f. told f ≡ t) → IsErrAnd b (λ f. told f ≡ t) → a ≡ b
same_refusal_told t (Ok x) b p q = absurd p
same_refusal_told t (Err f) (Ok y) p q = absurd q
same_refusal_told t (Err f) (Err g) p q = ap Err (same_fault f g (p ∙ sym q))

one_giving : (o : Option Kept) (buffer : List ℕ) (a b : Result (ℕ × ℕ) Fault) (x y : List ℕ) → Giving o buffer a x → Giving o buffer b y → (a ≡ b) × (x ≡ y)
one_giving none buffer a b x y f g = (same_refusal_told (34, 0) a b f.0 g.0, f.1 ∙ sym g.1)
one_giving (some r) buffer a b x y (inl f) (inl g) = (f.1 ∙ sym g.1, f.2 ∙ sym g.2)
one_giving (some r) buffer a b x y (inl f) (inr g) = let p = f.0 in let q = g.0 in absurd (omega arith)
one_giving (some r) buffer a b x y (inr f) (inl g) = let p = f.0 in let q = g.0 in absurd (omega arith)
one_giving (some r) buffer a b x y (inr f) (inr g) = (same_refusal_told (35, 0) a b f.1 g.1, f.2 ∙ sym g.2)

module _ {C L : Type 0} (costs : Costs C) (sheet : Sheet) (given : Lent L) where
  abbrev FailsAt : (left : Lent L) → Option Sheet → ℕ → ℕ → Declined C → Type 0
  FailsAt left x editions free d = Fails (propose_checks costs sheet given left x editions free) d

  abbrev PassedAt : (left : Lent L) → Option Sheet → ℕ → ℕ → Type 0
  PassedAt left x editions free = Passed (propose_checks costs sheet given left x editions free)

  not_passed : (left left' : Lent L) (x : Option Sheet) (editions free : ℕ) (d : Declined C) → PassedAt left x editions free → FailsAt left' x editions free d → ⊥
  not_passed left left' x editions free d p (inl f) = f.0 p.0
  not_passed left left' x editions free d p (inr (_, inl f)) = f.0 p.1.0
  not_passed left left' none editions free d p (inr (_, inr (_, f))) = f
  not_passed left left' (some old) editions free d p (inr (_, inr (_, inl f))) = p.1.1.0 f.0
  not_passed left left' (some old) editions free d p (inr (_, inr (_, inr (_, inl f)))) =
      f.told.lost.not_of_new (p.1.1.1.0 f.told.one f.told.lost.proper f.told.lost.of_old)
  not_passed left left' (some old) editions free d p (inr (_, inr (_, inr (_, inr (_, f))))) = f

  cheapest : (left left' : Lent L) (old : Sheet) (c d : Declined C) → (f : DeclinedForLoss costs sheet given left old c) → (g : DeclinedForLoss costs sheet given left' old d) → costs.le f.cost g.cost
  cheapest left left' old c d f g = subst (λ (x : C). costs.le f.cost x) (sym g.told.cost_is) (f.told.least g.told.one g.told.lost)

  module _ (left left' : Lent L) (editions free : ℕ) where
    judged_alike : (x : Option Sheet) (c d : Declined C) → Fails (judging_checks costs sheet given left x) c → Fails (judging_checks costs sheet given left' x) d → Alike costs x (Err c) (Err d) left left'
    judged_alike none c d f g = absurd f
    judged_alike (some old) c d (inl f) (inl g) = both_refused f.1 g.1 (f.2 ∙ sym g.2) (λ n. absurd (n refl))
    judged_alike (some old) c d (inl f) (inr (p, g)) = absurd (p f.0)
    judged_alike (some old) c d (inr (p, f)) (inl g) = absurd (p g.0)
    judged_alike (some old) c d (inr (_, inl f)) (inr (_, inl g)) = both_lost f.tells g.tells (cheapest left left' old c d f g) (cheapest left' left old d c g f)
    judged_alike (some old) c d (inr (_, inl f)) (inr (_, inr (_, g))) = absurd g
    judged_alike (some old) c d (inr (_, inr (_, f))) (inr (_, g)) = absurd f

    refused_alike : (x : Option Sheet) (c d : Declined C) (n : ℕ) → (reason c ≡ refusal n 0) × (left ≡ given) → (reason d ≡ refusal n 0) × (left' ≡ given) → Alike costs x (Err c) (Err d) left left'
    refused_alike x c d n f g = both_refused f.0 g.0 (ap (λ (l : Lent L). l.show) (f.1 ∙ sym g.1)) (λ _. f.1 ∙ sym g.1)

    fails_alike : (x : Option Sheet) (c d : Declined C) → FailsAt left x editions free c → FailsAt left' x editions free d → Alike costs x (Err c) (Err d) left left'
    fails_alike x c d (inl f) (inl g) = refused_alike x c d 20 (f.1, f.2) (g.1, g.2)
    fails_alike x c d (inl f) (inr (p, g)) = absurd (f.0 p)
    fails_alike x c d (inr (p, f)) (inl g) = absurd (g.0 p)
    fails_alike x c d (inr (_, inl f)) (inr (_, inl g)) = refused_alike x c d 30 (f.1, f.2) (g.1, g.2)
    fails_alike x c d (inr (_, inl f)) (inr (_, inr (p, g))) = absurd (f.0 p)
    fails_alike x c d (inr (_, inr (p, f))) (inr (_, inl g)) = absurd (g.0 p)
    fails_alike x c d (inr (_, inr (_, f))) (inr (_, inr (_, g))) = judged_alike x c d f g

    accepts_alike : (x : Option Sheet) (k j : ℕ) → Proposing costs sheet given left x editions free (Ok k) → Proposing costs sheet given left' x editions free (Ok j) → Alike costs x (Ok k) (Ok j) left left'
    accepts_alike none k j p q =
        subst (λ (n : ℕ). Alike costs none (Ok k) (Ok n) left left') (p.1.0 ∙ sym q.1.0)
        (both_accepted (ap (λ (l : Lent L). l.show) (p.1.1 ∙ sym q.1.1)) (λ _. p.1.1 ∙ sym q.1.1))
    accepts_alike (some old) k j p q =
        subst (λ (n : ℕ). Alike costs (some old) (Ok k) (Ok n) left left') (p.1.0 ∙ sym q.1.0)
        (both_accepted (p.1.1 ∙ sym q.1.1) (λ e. absurd (cc)))

    pub alike : (x : Option Sheet) (a b : Result ℕ (Declined C)) → Proposing costs sheet given left x editions free a → Proposing costs sheet given left' x editions free b → Alike costs x a b left left'
    alike x (Ok k) (Ok j) p q = accepts_alike x k j p q
    alike x (Ok k) (Err d) p q = absurd (not_passed left left' x editions free d p.0 q)
    alike x (Err c) (Ok j) p q = absurd (not_passed left' left x editions free c q.0 p)
    alike x (Err c) (Err d) p q = fails_alike x c d p q

after_alike : {C L : Type 0} (costs : Costs C) (x : Option Sheet) (a b : Result ℕ (Declined C)) (left left' : Lent L) (s : Held) (sheet : Sheet) → Alike costs x a b left left' → after_proposing s sheet a ≡ after_proposing s sheet b
after_alike costs x a b left left' s sheet (both_accepted p q) = refl
after_alike costs x a b left left' s sheet (both_refused p q t u) = refl
after_alike costs x a b left left' s sheet (both_lost p q t u) = refl

pub one_outcome : {M C : Type 0} (L : Type 0) (model : M → Costs C) (s : Held) → OneOutcome L model s
one_outcome L model s =
    record {
      propose = λ m sheet given left left' a b s' s'' p q.
          let z = alike (model m) sheet given left left' (length s.editions) (free_rows s) (newest s.editions) a b p.answers q.answers in
          (z, p.leaves ∙ after_alike (model m) (newest s.editions) a b left left' s sheet z ∙ sym q.leaves);
      file = λ body a b s' s'' p q.
          let z = one_filing _ _ _ body a b (filing_lawful _ _ _ body a p.answers) (filing_lawful _ _ _ body b q.answers) in
          (z, p.leaves ∙ ap (after_filing s body) z ∙ sym q.leaves);
      fetch = λ k buffer a b x y p q. one_giving (numbered s.kept k) buffer a b x y p q;
    }

module _ {M C L : Type 0} (model : M → Costs C) (rows : List Row) (bytes : List ℕ) (h : History M C L) (l : Lawful model rows bytes h) where
  one_fetching : (k : ℕ) (buffer : List ℕ) (a b : Result (ℕ × ℕ) Fault) (x y : List ℕ) → Fetching h k buffer a x → Fetching h k buffer b y → (a ≡ b) × (x ≡ y)
  one_fetching k buffer a b x y (inl (w, e, f, g)) (inl (v, d, i, j)) =
      let z = one_record model rows bytes h l k v w d e i f in
      let m : ◌≡◌ {A = Kept} (record { bytes = v; edition = d }) (record { bytes = w; edition = e }) =
      ap (λ (u : List ℕ). record { bytes = u; edition = d }) z.0 ∙ ap (λ (n : ℕ). record { bytes = w; edition = n }) z.1 in
      one_giving (some (record { bytes = w; edition = e })) buffer a b x y g (subst (λ (q : Kept). Giving (some q) buffer b y) m j)
  one_fetching k buffer a b x y (inl (w, e, f, g)) (inr (n, j)) = absurd (n w e f)
  one_fetching k buffer a b x y (inr (n, g)) (inl (v, d, i, j)) = absurd (n v d i)
  one_fetching k buffer a b x y (inr (_, g)) (inr (_, j)) = one_giving none buffer a b x y g j

  pub one_answer : OneAnswer model rows bytes h
  one_answer =
      record {
        propose = λ m sheet given left left' a b p q. alike (model m) sheet given left left' _ _ _ a b p.decided q.decided;
        file = λ body a b p q. one_filing _ _ _ body a b p q;
        fetch = λ k buffer a b x y p q. one_fetching k buffer a b x y p q;
      }
