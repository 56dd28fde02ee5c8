-- What a survey says of lost forests.
use Rattle.forest.specs.Refusals.{told as fault_told}
use Rattle.std.proofs.Common.{◌≡◌, ℕ, ◌<◌, ◌≤◌, Bool, List, length, take, get_or, Some, None, Option, sym, ◌∙◌, subst, inl, inr, arith}
use Rattle.std.proofs.lemmas.Bool.{cases_lt}
use Rattle.std.proofs.lemmas.List.{get_or-take, length-take-le}
use Rattle.forest.specs.declared.fault.Fault.{Fault}
use Rattle.forest.specs.Forest.{Forest}
use Rattle.measure.specs.Measure.{Costs, Ordered, Lawful, cost_of}
use Rattle.measure.proofs.Costs.{cost_good}
use Rattle.measure.proofs.Lengths.{counts_bytes}
use Rattle.survey.specs.declared.types.Sort.{Sort}
use Rattle.survey.specs.Sorting.{Model}
use Rattle.survey.specs.Survey.{setting, entry, blank, Surveyed, Stands, TooMany, Refused}
use Rattle.writer.specs.Shows.{Shown}
use Rattle.loss.specs.Verdict.{Few, CheapestLost, RefusalDue, too_many, most}
use Rattle.loss.specs.Losing.{Sides, AllOf}
use Rattle.loss.specs.Firsts.{FirstLost}
use Rattle.loss.proofs.Pigeons.{pigeon}

module _ {C : Type 0} (m : Costs C) (s : Model) (sides : Sides) where
  pub refusal : {L : Type 0} → (n cap : ℕ) → cap ≡ n → 0 < n → n ≤ most → (list list' : L) (f : Fault) → Refused (setting m s) cap f → RefusalDue s n list list' (fault_told f)
  refusal n cap same low high list list' f r = subst (RefusalDue s n list list') (sym r.tells) (too_many low high (subst (TooMany s) same r.many))

  module _ (xs : List (Sort C)) (n : ℕ) (sv : Surveyed (setting m s) (entry (setting m s) xs) n (length xs)) where
    abbrev e : ℕ → Sort C
    e = entry (setting m s) xs

    -- of a survey's list only the first n elements are looked through
    abbrev FirstOfSorts : Option ℕ → Type 0
    FirstOfSorts r = FirstLost s sides (λ k. get_or (take n xs) k (blank (setting m s))) (length (take n xs)) r

    listed : (r : Option ℕ) → FirstOfSorts r → FirstLost s sides e n r
    listed None h =
        let all : length (take n xs) ≡ n = length-take-le n xs sv.fits in
        λ j lt. subst (λ (x : Sort C). AllOf s sides.kept x.standings) (get_or-take n xs j (blank (setting m s)) lt) (h j (omega arith))
    listed (Some k) h =
        let all : length (take n xs) ≡ n = length-take-le n xs sv.fits in
        let lt : k < n = omega (arith, h.0) in (
          lt,
          subst (λ (x : Sort C). AllOf s sides.lost x.standings) (get_or-take n xs k (blank (setting m s)) lt) h.1,
          (λ j h'. subst (λ (x : Sort C). AllOf s sides.kept x.standings) (get_or-take n xs j (blank (setting m s)) (omega arith)) (h.2 j h')),
        )

    pub few : Few s (length xs)
    few forest counted differ =
        pigeon (length xs) (λ i k. s.has (forest i) (e k).standings)
        (λ i h. let z = sv.complete (forest i) (counted i h) in (z.0, omega (arith, z.1, sv.fits), z.2))
        (λ i j k hi hj. differ i j hi hj (e k).standings)

    pub all_kept : FirstOfSorts None → (f : Forest) → s.counts f → sides.kept f
    all_kept h f c = let z = sv.complete f c in listed None h z.0 z.1 f c z.2

    module _ (k : ℕ) (first : FirstOfSorts (Some k)) where
      pub within : k < n
      within = (listed (Some k) first).0

      module _ (laws : Lawful m.good m.le m.rules) (order : Ordered m.good m.le) (apart : (f : Forest) → sides.kept f → sides.lost f → ⊥) where
        fine : (j : ℕ) → j < n → m.good (e j).cost
        fine j h = let z = sv.attained j h in subst m.good z.2.cost (cost_good laws z.0)

        least : (f : Forest) → Stands (setting m s) (e k) f → (g : Forest) → s.counts g → sides.lost g → m.le (cost_of m.rules f) (cost_of m.rules g)
        least f st g c l =
            let z = sv.complete g c in
            elim (cases_lt z.0 k) [
              | inl lt ↦ absurd (apart g ((listed (Some k) first).2 z.0 lt g c z.2) l)
              | inr ge ↦ rw st.cost (order.trans _ _ _ (fine k within) (fine z.0 z.1) (cost_good laws g) (sv.ascending k z.0 ge z.1) z.3)
            ]

        pub told : (before after : List ℕ) (shown : Bool) → Shown (setting m s) (e k) before after shown → CheapestLost s sides m before after (e k).cost (e k).length shown
        told before after shown w =
            let st = w.stands in
            record {
              forest = w.forest;
              counted = st.counts;
              is_lost = (listed (Some k) first).1 w.forest st.counts st.sort;
              least = least w.forest st;
              cost_is = sym st.cost;
              size_is = sym st.length ∙ counts_bytes w.forest;
              put = w.put;
            }
