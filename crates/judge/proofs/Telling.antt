-- What a judgement by sorts says of two sheets.
use Rattle.forest.specs.Refusals.{told as fault_told}
use Rattle.std.proofs.Common.{◌≡◌, ℕ, Bool, true, false, not, T, ◌⊎◌, ◌↔◌, List, Ok, Err, Result, sym, refl, ◌∙◌, subst, inl, inr, arith}
use Rattle.std.proofs.lemmas.Bool.{both_ways}
use Rattle.forest.specs.declared.fault.Fault.{Fault}
use Rattle.forest.specs.Forest.{Forest, bytes_of}
use Rattle.measure.specs.Measure.{Costs}
use Rattle.measure.proofs.Lengths.{counts_bytes}
use Rattle.sheet.specs.Meaning.{OfSheet}
use Rattle.sheet.specs.Standing.{IsStanding}
use Rattle.sheet.specs.Held.{rows_of}
use Rattle.survey.specs.declared.types.Standings.{Standings}
use Rattle.survey.specs.Survey.{TooMany}
use Rattle.writer.specs.Shows.{Put}
use Rattle.loss.specs.Losing.{Tells}
use Rattle.loss.specs.declared.verdict.Verdict.{Verdict}
use Rattle.loss.specs.declared.verdict.Verdict.TheVariants.{AllAdmitted, Lost}
use Rattle.loss.specs.Verdict as by
use Rattle.loss.specs.Verdict.{Few, CheapestLost, RefusalDue, no_list, too_many}
use Rattle.judge.specs.declared.pair.Pair.{Pair}
use Rattle.judge.specs.Pairs.{sorting_of, sides_of}
use Rattle.judge.specs.Judging.{MoreSorts, Shows, Told}
use Rattle.judge.specs.Judged.{Judged, Unbegun, Fit}
use Rattle.judge.specs.Places.{same_standing, same_number}
use Rattle.judge.specs.Pairing.{sorts}

module _ (p : Pair) (σ : Standings) where
  pub admitted : (a b : Bool) → ((f : Forest) → IsStanding (rows_of p.old) σ.old f → T a ↔ OfSheet (rows_of p.old) f)
      → ((f : Forest) → IsStanding (rows_of p.new) σ.new f → T b ↔ OfSheet (rows_of p.new) f) → a ≡ true → Tells (sorting_of p) (sides_of p) σ (not b)
  admitted a true x y e = record { yes = λ h. absurd (both_ways _ refl h); no = λ _ f counted has o. (y f has.1).0 tt }
  admitted a false x y e = record { yes = λ _ f counted has. ((x f has.0).0 (subst T (sym e) tt), λ o. (y f has.1).1 o); no = λ h. absurd (both_ways _ h refl) }

shows : (f : Forest) (before after : List ℕ) (shown : Bool) → Put f before after shown → Shows (bytes_of f) shown before after
shows f before after true z = (omega (arith, z.0, z.1), z.2)
shows f before after false z = (elim z.0 [ inl h ↦ omega arith | inr h ↦ omega arith ], z.1)

module _ (p : Pair) where
  few_sorts : (n : ℕ) → Few (sorting_of p) n → MoreSorts (rows_of p.old) (rows_of p.new) n → ⊥
  few_sorts n few m =
      few m.forest m.proper
      (λ i j hi hj σ x y. m.apart i j hi hj (same_standing _ σ.old _ _ x.0 y.0, same_standing _ σ.new _ _ x.1 y.1))

  more_sorts : (n : ℕ) → TooMany (sorting_of p) n → MoreSorts (rows_of p.old) (rows_of p.new) n
  more_sorts n t =
      record {
        forest = t.forest;
        proper = t.counted;
        apart = λ i j hi hj same.
            let x = t.sorted i hi in
            t.differ i j hi hj
            ((sorts p).one_sort (t.forest j) (t.sort i) (t.sort j) (t.counted j hj) (same_number _ (t.sort i).old _ _ same.0 x.0, same_number _ (t.sort i).new _ _ same.1 x.1) (t.sorted j hj));
      }

  module _ {C : Type 0} (m : Costs C) (before after : List ℕ) where
    told : (cost : C) (size : ℕ) (shown : Bool) → CheapestLost (sorting_of p) (sides_of p) m before after cost size shown → Told m (rows_of p.old) (rows_of p.new) cost size shown before after
    told cost size shown l =
        record {
          one = l.forest;
          lost = record { proper = l.counted; of_old = l.is_lost.0; not_of_new = l.is_lost.1 };
          cost_is = l.cost_is;
          size_is = l.size_is ∙ sym (counts_bytes l.forest);
          shows = shows l.forest before after shown l.put;
          least = λ g h. rw l.cost_is (l.least g h.proper (h.of_old, h.not_of_new));
        }

    refusal : {L : Type 0} (n : ℕ) (list list' : L) (tells : ℕ × ℕ) → RefusalDue (sorting_of p) n list list' tells
        → ((tells ≡ (20, 0)) × (Fit n → ⊥)) ⊎ ((tells ≡ (21, 0)) × Fit n × MoreSorts (rows_of p.old) (rows_of p.new) n)
    refusal n list list' tells (no_list h e) = inl (refl, λ fit. elim h [ inl x ↦ omega (arith, fit.0) | inr x ↦ omega (arith, fit.1) ])
    refusal n list list' tells (too_many low high t) = inr (refl, (low, high), more_sorts n t)

    unbegun_at : {L : Type 0} (n : ℕ) (list list' : L) (tells : ℕ × ℕ) → RefusalDue (sorting_of p) n list list' tells → tells.0 ≡ 20 → list' ≡ list
    unbegun_at n list list' tells (no_list h e) q = e
    unbegun_at n list list' tells (too_many low high t) q = absurd (omega arith)

    pub judged : {L : Type 0} (n : ℕ) (list list' : L) (r : Result (Verdict C) Fault) → by.Judged (sorting_of p) (sides_of p) m n list list' before after r → Judged m (rows_of p.old) (rows_of p.new) n r before after
    judged n list list' (Ok AllAdmitted) z = ((z.0, z.1), few_sorts n z.2, z.3.0, z.3.1)
    judged n list list' (Ok (Lost l)) z = ((z.0, z.1), few_sorts n z.2, told l.cost l.length l.shown z.3)
    judged n list list' (Err f) z = (refusal n list list' (fault_told f) z.0, z.1)

    pub unbegun : {L : Type 0} (n : ℕ) (list list' : L) (r : Result (Verdict C) Fault) → by.Judged (sorting_of p) (sides_of p) m n list list' before after r → Unbegun r list list'
    unbegun n list list' (Ok v) z = tt
    unbegun n list list' (Err f) z = unbegun_at n list list' (fault_told f) z.0
