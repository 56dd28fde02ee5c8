-- Every season is lawful.
use Rattle.forest.proofs.Numbers.{same_fault}
use Rattle.forest.specs.Refusals.{number_of}
use Rattle.std.proofs.Common.{◌≡◌, ℕ, ◌+◌, ◌-◌, ◌<◌, ◌≤◌, min, ◌↔◌, List, [], ◌∷◌, ◌++◌, length, drop, Ok, Err, Result, sym, refl, ap, ◌∙◌, subst, inl, inr, arith}
use Rattle.std.proofs.Math.Option.{Option, none, some}
use Rattle.std.proofs.lemmas.List.{length_push}
use Rattle.forest.specs.declared.fault.Fault.{Fault}
use Rattle.forest.proofs.Unique.{one_refusal, not_both}
use Rattle.rows.specs.Sheet.{Sheet}
use Rattle.rows.specs.declared.row.Row.{Row}
use Rattle.measure.specs.Measure.{Costs}
use Rattle.law.specs.declared.Declined.{Declined}
use Rattle.judge.specs.Judging.{AllKept}
use Rattle.law.specs.Calls.{Kept, Held, newest, numbered, free_rows, free_bytes, Lent, Passed, Fails, Check, Filing, Giving, Proposing, RecordOf, RecordOfNewest, DeclinedForLoss, earlier_checks, sorts_fit, file_checks, propose_checks, unless, reading}
use Rattle.law.specs.Law.{Event, proposed, filed, fetched, History, Step, Run, newest_in, editions_in, rows_taken, records_in, bytes_taken, Accepted, Fetching, FilingLaw, SomeLost, LossTold, ProposalLaw, Answered, Standing, Lawful, SeasonLaw}
use Rattle.law.proofs.Lists.{numbered_within, numbered_there, numbered_cases, last_numbered, left_over}
use Rattle.law.proofs.Told.{run_counted, sheets, bodies, told, sheets_long, sheets_rows, bodies_long, bodies_bytes, newest_is, told_is, accepted_is, accepted_at, edition_is, edition_at}

-- A record belongs to the edition that it was filed under, which there is, and to every later one.
record Stands (editions : List Sheet) (k : Kept) : Type 0 where
  from : 0 < k.edition
  held : k.edition ≤ length editions
  belongs : (i : ℕ) (x : Sheet) → numbered editions i ≡ some x → k.edition ≤ i → RecordOf x k.bytes

abbrev AllStand : Held → Type 0
AllStand s = (n : ℕ) (k : Kept) → numbered s.kept n ≡ some k → Stands s.editions k

-- The newest edition is the one of the highest number.
newest_there : (xs : List Sheet) → 0 < length xs → (x : Sheet) × (newest xs ≡ some x) × (numbered xs (length xs) ≡ some x)
newest_there xs p = let t = numbered_there xs (length xs) p (omega arith) in (t.0, last_numbered none xs t.0 t.1, t.1)

-- All forests of the newest edition belong to the next one.
abbrev Goes_on : List Sheet → Sheet → Type 0
Goes_on xs sheet = (old : Sheet) → newest xs ≡ some old → AllKept old sheet

-- Then a record that stands goes on standing.
stands_more : (xs : List Sheet) (sheet : Sheet) (k : Kept) → Goes_on xs sheet → Stands xs k → Stands (xs ++ sheet ∷ []) k
stands_more xs sheet k goes s =
    let l = length_push xs sheet in
    let f = s.from in
    let o = s.held in
    record {
      from = s.from;
      held = omega arith;
      belongs = λ i x e lo. elim (numbered_cases xs sheet i x e) [
        | inl old ↦ s.belongs i x old lo
        | inr new ↦
            let n = newest_there xs (omega arith) in
            let r = s.belongs (length xs) n.0 n.2 (omega arith) in
            subst (λ (y : Sheet). RecordOf y k.bytes) (sym new.1) (record { forest = r.forest; stands = r.stands; belongs = goes n.0 n.1 r.forest r.stands.is_record.proper r.belongs })
      ];
    }

-- A record of the newest edition stands.
stands_new : (xs : List Sheet) (w : List ℕ) → RecordOfNewest (newest xs) w → Stands xs (record { bytes = w; edition = length xs })
stands_new [] w b = absurd b
stands_new (y ∷ ys) w b =
    let n = newest_there (y ∷ ys) (omega arith) in
    let r : RecordOf n.0 w = subst (λ (o : Option Sheet). RecordOfNewest o w) n.1 b in
    record {
      from = omega arith;
      held = omega arith;
      belongs = λ i x e lo.
          let b = numbered_within (y ∷ ys) i x e in
          let f : i ≡ length (y ∷ ys) = omega (arith, b.1) in
          let m = n.2 in
          let g : n.0 ≡ x = cc in
          subst (λ (z : Sheet). RecordOf z w) g r;
    }

-- A check that cannot be both passed and failed, and that refuses in one way.
record Exact {D : Type 0} (c : Check D) : Type 0 where
  apart : c.passes → (d : D) → c.refuses d → ⊥
  one : (d e : D) → c.refuses d → c.refuses e → d ≡ e

abbrev AllExact : {D : Type 0} → List (Check D) → Type 0
AllExact [] = Unit {0}
AllExact (c ∷ cs) = Exact c × AllExact cs

not_passed : {D : Type 0} (cs : List (Check D)) (d : D) → AllExact cs → Passed cs → Fails cs d → ⊥
not_passed [] d x p f = f
not_passed (c ∷ cs) d x p (inl f) = x.0.apart p.0 d f
not_passed (c ∷ cs) d x p (inr f) = not_passed cs d x.1 p.1 f.1

one_failure : {D : Type 0} (cs : List (Check D)) (d e : D) → AllExact cs → Fails cs d → Fails cs e → d ≡ e
one_failure [] d e x f g = absurd f
one_failure (c ∷ cs) d e x (inl f) (inl g) = x.0.one d e f g
one_failure (c ∷ cs) d e x (inl f) (inr g) = absurd (x.0.apart g.0 d f)
one_failure (c ∷ cs) d e x (inr f) (inl g) = absurd (x.0.apart f.0 e g)
one_failure (c ∷ cs) d e x (inr f) (inr g) = one_failure cs d e x.1 f.1 g.1

unless_exact : (n : ℕ) (p : Type 0) → Exact (unless n p)
unless_exact n p = record { apart = λ a f r. r.0 a; one = λ f g r s. same_fault f g (r.1 ∙ sym s.1) }

reading_exact : (body : List ℕ) → Exact (reading body)
reading_exact body = record {
  apart = λ s f d. not_both body s.0 (number_of f.refusal) f.place s.1 d;
  one = λ f g d e. let u = one_refusal body (number_of f.refusal) f.place (number_of g.refusal) g.place d e in same_fault f g (ap (λ (n : ℕ). (n, f.place)) u.0 ∙ ap (λ (p : ℕ). (number_of g.refusal, p)) u.1);
}

pub filing_lawful : (x : Option Sheet) (records free : ℕ) (body : List ℕ) (answer : Result ℕ Fault) → Filing x records free body answer → FilingLaw x records free body answer
filing_lawful x records free body answer p = record { decided = p; accepted = passed answer p; refused = λ f g. failed answer p f g }
  where
    exact : AllExact (file_checks x records free body)
    exact = (unless_exact _ _, (reading_exact body, (unless_exact _ _, (unless_exact _ _, tt))))

    passed : (answer : Result ℕ Fault) → Filing x records free body answer → Passed (file_checks x records free body) → answer ≡ Ok (records + 1)
    passed (Ok k) q p = ap Ok q.1
    passed (Err f) q p = absurd (not_passed (file_checks x records free body) f exact p q)

    failed : (answer : Result ℕ Fault) → Filing x records free body answer → (f : Fault) → Fails (file_checks x records free body) f → answer ≡ Err f
    failed (Ok k) q f g = absurd (not_passed (file_checks x records free body) f exact q.0 g)
    failed (Err e) q f g = ap Err (one_failure (file_checks x records free body) e f exact q g)

module _ {M C L : Type 0} (model : M → Costs C) where
  -- An accepted proposal keeps all forests of the newest edition.
  goes_on : (m : M) (sheet : Sheet) (given left : Lent L) (k : ℕ) (x : Option Sheet) (editions free : ℕ) → Proposing (model m) sheet given left x editions free (Ok k) → (old : Sheet) → x ≡ some old → AllKept old sheet
  goes_on m sheet given left k x editions free p old e =
      (subst (λ (o : Option Sheet). Proposing (model m) sheet given left o editions free (Ok k)) e p).0.1.1.1.0

  -- A call leaves every record standing.
  standing_more : (e : Event M C L) (s s' : Held) → Step model e s s' → AllStand s → AllStand s'
  standing_more (proposed m sheet given (Ok k) left) s s' st all =
      subst AllStand (sym st.leaves) (λ n r e. stands_more s.editions sheet r (λ old f. goes_on m sheet given left k (newest s.editions) (length s.editions) (free_rows s) st.answers old f) (all n r e))
  standing_more (proposed m sheet given (Err d) left) s s' st all = subst AllStand (sym st.leaves) all
  standing_more (filed body (Ok k)) s s' st all =
      let new : Kept = record { bytes = body; edition = length s.editions } in
      subst AllStand (sym st.leaves) (λ n r e. elim (numbered_cases s.kept new n r e) [
        | inl old ↦ all n r old
        | inr last ↦ subst (Stands s.editions) (sym last.1) (stands_new s.editions body st.answers.0.1.1.0)
      ])
  standing_more (filed body (Err f)) s s' st all = subst AllStand (sym st.leaves) all
  standing_more (fetched k buffer answer buffer') s s' st all = subst AllStand (sym st.1) all

  module _ (rows : List Row) (bytes : List ℕ) where
    all_stand : (h : History M C L) (s : Held) → Run model rows bytes h s → AllStand s
    all_stand [] s r = subst AllStand (sym r) (λ n k e. absurd (cc))
    all_stand (e ∷ h) s r = standing_more e r.0 s r.1.1 (all_stand h r.0 r.1.0)

    stands_at : (h : History M C L) (s : Held) → Run model rows bytes h s → (k : ℕ) (w : List ℕ) (e : ℕ) → Accepted h k w e → Stands (sheets h) (record { bytes = w; edition = e })
    stands_at h s r k w e a = subst AllStand (told_is model rows bytes h s r) (all_stand h s r) k (record { bytes = w; edition = e }) (accepted_is h (run_counted model rows bytes h s r) k w e a)

    standing : (h : History M C L) (s : Held) → Run model rows bytes h s → Standing h
    standing h s r = record {
      under = λ k w e a.
          let t = stands_at h s r k w e a in
          let x = numbered_there (sheets h) e t.from t.held in
          (x.0, edition_at h (run_counted model rows bytes h s r) e x.0 x.1);
      belongs = λ k w e a i x b lo. (stands_at h s r k w e a).belongs i x (edition_is h (run_counted model rows bytes h s r) i x b) lo;
    }

    fetching : (h : History M C L) (s : Held) → Run model rows bytes h s → (k : ℕ) (buffer : List ℕ) (answer : Result (ℕ × ℕ) Fault) (buffer' : List ℕ) → (o : Option Kept) → numbered (bodies h) k ≡ o → Giving o buffer answer buffer' → Fetching h k buffer answer buffer'
    fetching h s r k buffer answer buffer' none e g =
        inr ((λ w i a. let f = accepted_is h (run_counted model rows bytes h s r) k w i a in cc), g)
    fetching h s r k buffer answer buffer' (some x) e g = inl (x.bytes, x.edition, accepted_at h (run_counted model rows bytes h s r) k x e, g)

    filing : (h : History M C L) (body : List ℕ) (answer : Result ℕ Fault) → Filing (newest (sheets h)) (length (bodies h)) (free_bytes (told rows bytes h)) body answer → Filing (newest_in h) (records_in h) (min (length bytes) 65536 - bytes_taken h) body answer
    filing h body answer f =
        let free : free_bytes (told rows bytes h) ≡ min (length bytes) 65536 - bytes_taken h = ap (λ (n : ℕ). min (length (drop (bytes_taken h) bytes)) (65536 - n)) (bodies_bytes h) ∙ left_over bytes (bytes_taken h) 65536 in
        let a = subst (λ (x : Option Sheet). Filing x (length (bodies h)) (free_bytes (told rows bytes h)) body answer) (newest_is h) f in
        let b = subst (λ (n : ℕ). Filing (newest_in h) n (free_bytes (told rows bytes h)) body answer) (bodies_long h) a in
        subst (λ (n : ℕ). Filing (newest_in h) (records_in h) n body answer) free b

    module _ (m : M) (sheet : Sheet) (given left : Lent L) where
      proposing : (h : History M C L) (answer : Result ℕ (Declined C)) → Proposing (model m) sheet given left (newest (sheets h)) (length (sheets h)) (free_rows (told rows bytes h)) answer → Proposing (model m) sheet given left (newest_in h) (editions_in h) (min (length rows) 2048 - rows_taken h) answer
      proposing h answer p =
          let free : free_rows (told rows bytes h) ≡ min (length rows) 2048 - rows_taken h = ap (λ (n : ℕ). min (length (drop (rows_taken h) rows)) (2048 - n)) (sheets_rows h) ∙ left_over rows (rows_taken h) 2048 in
          let a = subst (λ (x : Option Sheet). Proposing (model m) sheet given left x (length (sheets h)) (free_rows (told rows bytes h)) answer) (newest_is h) p in
          let b = subst (λ (n : ℕ). Proposing (model m) sheet given left (newest_in h) n (free_rows (told rows bytes h)) answer) (sheets_long h) a in
          subst (λ (n : ℕ). Proposing (model m) sheet given left (newest_in h) (editions_in h) n answer) free b

      module _ (old : Sheet) (editions free : ℕ) (past : Passed (earlier_checks (model m) sheet given left editions free)) (fits : (sorts_fit (model m) sheet given left old).passes) where
        -- A proposal that is refused past the earlier checks is declined for a loss.
        only_loss : (d : Declined C) → Fails (propose_checks (model m) sheet given left (some old) editions free) d → DeclinedForLoss (model m) sheet given left old d
        only_loss d (inl f) = absurd (f.0 past.0)
        only_loss d (inr (p, inl f)) = absurd (f.0 past.1.0)
        only_loss d (inr (p, inr (q, inl f))) = absurd (fits f.0)
        only_loss d (inr (p, inr (q, inr (r, inl f)))) = f
        only_loss d (inr (p, inr (q, inr (r, inr (k, f))))) = absurd f

        loses : (answer : Result ℕ (Declined C)) → Proposing (model m) sheet given left (some old) editions free answer → LossTold (model m) sheet given left editions free old answer ↔ SomeLost (model m) sheet given left editions free old
        loses (Ok k) p =
            ((λ d. let e = d.1 in absurd (cc)), (λ l. absurd (l.1.not_of_new (p.0.1.1.1.0 l.0 l.1.proper l.1.of_old))))
        loses (Err d) p = let t = only_loss d p in ((λ _. (t.told.one, t.told.lost)), (λ _. (d, refl, t)))

        goes_through : (answer : Result ℕ (Declined C)) → Proposing (model m) sheet given left (some old) editions free answer → (SomeLost (model m) sheet given left editions free old → ⊥) → answer ≡ Ok (editions + 1)
        goes_through (Ok k) p none-lost = ap Ok p.1.0
        goes_through (Err d) p none-lost = let t = only_loss d p in absurd (none-lost (t.told.one, t.told.lost))

      starts : (editions free : ℕ) → Passed (earlier_checks (model m) sheet given left editions free) → (answer : Result ℕ (Declined C)) → Proposing (model m) sheet given left none editions free answer → answer ≡ Ok (editions + 1)
      starts editions free past (Ok k) p = ap Ok p.1.0
      starts editions free past (Err d) (inl f) = absurd (f.0 past.0)
      starts editions free past (Err d) (inr (p, inl f)) = absurd (f.0 past.1.0)
      starts editions free past (Err d) (inr (p, inr (q, f))) = absurd f

      proposal : (x : Option Sheet) (editions free : ℕ) (answer : Result ℕ (Declined C)) → Proposing (model m) sheet given left x editions free answer → ProposalLaw (model m) sheet given left editions free x answer
      proposal x editions free answer p = record {
        decided = p;
        first = λ e past. starts editions free past answer (at none e);
        declined = λ old e past. loses old editions free past.0 past.1 answer (at (some old) e);
        accepted = λ old e past. goes_through old editions free past.0 past.1 answer (at (some old) e);
      }
        where
          at : (o : Option Sheet) → x ≡ o → Proposing (model m) sheet given left o editions free answer
          at o e = subst (λ (y : Option Sheet). Proposing (model m) sheet given left y editions free answer) e p

    answered : (e : Event M C L) (h : History M C L) (s : Held) → Run model rows bytes h s → (s' : Held) → Step model e (told rows bytes h) s' → Answered model rows bytes h e
    answered (proposed m sheet given answer left) h s r s' st = proposal m sheet given left _ _ _ answer (proposing m sheet given left h answer st.answers)
    answered (filed body answer) h s r s' st = filing_lawful _ _ _ body answer (filing h body answer st.answers)
    answered (fetched k buffer answer buffer') h s r s' st = fetching h s r k buffer answer buffer' (numbered (bodies h) k) refl st.0

    lawful : (h : History M C L) (s : Held) → Run model rows bytes h s → Lawful model rows bytes h
    lawful [] s r = tt
    lawful (e ∷ h) s r = (answered e h r.0 r.1.0 s (subst (λ (x : Held). Step model e x s) (told_is model rows bytes h r.0 r.1.0) r.1.1), standing (e ∷ h) s r, lawful h r.0 r.1.0)

pub season_lawful : (M C L : Type 0) (model : M → Costs C) → SeasonLaw M C L model
season_lawful M C L model = lawful model
