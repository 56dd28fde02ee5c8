-- One entry put into the list: in place of a dearer one of its sort, or as a new one.
use Rattle.std.proofs.Common.{◌≡◌, ℕ, ◌+◌, ◌<◌, ◌≤◌, ◌≢◌, ◌⊎◌, List, length, set, sym, refl, ap, ◌∙◌, inl, inr, arith, get_or-set_other, get_or-set_same}
use Rattle.std.proofs.lemmas.Bool.{cases_lt}
use Rattle.survey.specs.declared.types.Sort.{Sort}
use Rattle.survey.proofs.Basics.{same_or_not, le_self, le_flip, covered_lower, formed_at, good_at, le_at, standings_at, grown_none}
use Rattle.survey.specs.Survey.{Setting, blank, entry}
use Rattle.survey.specs.Steps.{Covered, Formed, Grown, Kept, Offered, Sound, another, better, no_better}

-- x at k
module _ {C : Type 0} {Γ : Setting C} (so : Sound Γ) (e e' : ℕ → Sort C) (done len n cap k : ℕ) (x : Sort C)
    (kept : Kept Γ e done len cap) (formed : Formed Γ e done x) (fine : Γ.good x.cost) (above : (i : ℕ) → i < done → Γ.le (e i).cost x.cost)
    (low : done ≤ k) (inside : k < n) (room : n ≤ cap) (more : len ≤ n) (old : (j : ℕ) → j < n → j ≢ k → j < len)
    (here : e' k ≡ x) (there : (j : ℕ) → j ≢ k → e' j ≡ e j)
    (alone : (j : ℕ) → j < n → j ≢ k → (e j).standings ≡ x.standings → ⊥)
    (lower : k < len → (x.standings ≡ (e k).standings) × Γ.le x.cost (e k).cost) where
  still : (j : ℕ) → j < done → e' j ≡ e j
  still j h = let ne : j ≢ k = omega arith in there j ne

  put_apart : (i j : ℕ) → i < n → j < n → (e' i).standings ≡ (e' j).standings → i ≡ j
  put_apart i j hi hj eq = go (same_or_not i k) (same_or_not j k)
    where
      go : (i ≡ k) ⊎ (i ≢ k) → (j ≡ k) ⊎ (j ≢ k) → i ≡ j
      go (inl p) (inl q) = p ∙ sym q
      go (inl p) (inr q) = absurd (alone j hj q (sym (standings_at (there j q)) ∙ sym eq ∙ ap (λ (m : ℕ). (e' m).standings) p ∙ standings_at here))
      go (inr p) (inl q) = absurd (alone i hi p (sym (standings_at (there i p)) ∙ eq ∙ ap (λ (m : ℕ). (e' m).standings) q ∙ standings_at here))
      go (inr p) (inr q) = kept.apart i j (old i hi p) (old j hj q) (sym (standings_at (there i p)) ∙ eq ∙ standings_at (there j q))

  put_fine : (j : ℕ) → j < n → Γ.good (e' j).cost
  put_fine j h = go (same_or_not j k)
    where
      go : (j ≡ k) ⊎ (j ≢ k) → Γ.good (e' j).cost
      go (inl p) = good_at Γ x (e' j) (ap e' p ∙ here) fine
      go (inr p) = good_at Γ (e j) (e' j) (there j p) (kept.fine j (old j h p))

  put_tentative : (j : ℕ) → done ≤ j → j < n → Formed Γ e' done (e' j)
  put_tentative j lo h = go (same_or_not j k)
    where
      go : (j ≡ k) ⊎ (j ≢ k) → Formed Γ e' done (e' j)
      go (inl p) = formed_at e e' done done x (e' j) (ap e' p ∙ here) (omega arith) still formed
      go (inr p) = formed_at e e' done done (e j) (e' j) (there j p) (omega arith) still (kept.tentative j lo (old j h p))

  put_ascending : (i j : ℕ) → i < done → i ≤ j → j < n → Γ.le (e' i).cost (e' j).cost
  put_ascending i j hi le hj = go (same_or_not j k)
    where
      go : (j ≡ k) ⊎ (j ≢ k) → Γ.le (e' i).cost (e' j).cost
      go (inl p) = le_at Γ (e i) x (e' i) (e' j) (still i hi) (ap e' p ∙ here) (above i hi)
      go (inr p) = le_at Γ (e i) (e j) (e' i) (e' j) (still i hi) (there j p) (kept.ascending i j hi le (old j hj p))

  put_kept : Kept Γ e' done n cap
  put_kept =
      record {
        sound = kept.sound;
        within = omega (arith, kept.within);
        fits = room;
        apart = put_apart;
        settled = λ j h. formed_at e e' j j (e j) (e' j) (still j h) (omega arith) (λ i lt. still i (omega arith)) (kept.settled j h);
        tentative = put_tentative;
        fine = put_fine;
        ascending = put_ascending;
      }

  put_sort : (j : ℕ) → j < len → (e' j).standings ≡ (e j).standings
  put_sort j h = go (same_or_not j k)
    where
      go : (j ≡ k) ⊎ (j ≢ k) → (e' j).standings ≡ (e j).standings
      go (inl p) = ap (λ (m : ℕ). (e' m).standings) p ∙ standings_at here ∙ (lower (omega arith)).0 ∙ ap (λ (m : ℕ). (e m).standings) (sym p)
      go (inr p) = standings_at (there j p)

  put_cost : (j : ℕ) → j < len → Γ.le (e' j).cost (e j).cost
  put_cost j h = go (same_or_not j k)
    where
      go : (j ≡ k) ⊎ (j ≢ k) → Γ.le (e' j).cost (e j).cost
      go (inl p) = le_at Γ x (e k) (e' j) (e j) (ap e' p ∙ here) (ap e p) (lower (omega arith)).1
      go (inr p) = le_at Γ (e j) (e j) (e' j) (e j) (there j p) refl (le_self so (e j).cost (kept.fine j h))

  pub put_grown : Grown Γ e e' done len n cap
  put_grown =
      record {
        kept = put_kept;
        same = still;
        covers = covered_lower so e e' len n more kept.fine (λ j h. put_fine j (omega arith)) put_sort put_cost;
      }

  pub put_covered : Covered Γ e' n x.standings x.cost
  put_covered = (k, inside, standings_at here, le_at Γ x x (e' k) x here refl (le_self so x.cost fine))

abbrev pub Taken : {C : Type 0} → Setting C → List (Sort C) → ℕ → ℕ → Sort C → List (Sort C) → ℕ → Type 0
Taken Γ xs done len x ys n = Grown Γ (entry Γ xs) (entry Γ ys) done len n (length xs) × Covered Γ (entry Γ ys) n x.standings x.cost

-- an offer
module _ {C : Type 0} {Γ : Setting C} (so : Sound Γ) (xs : List (Sort C)) (done len : ℕ) (x : Sort C)
    (kept : Kept Γ (entry Γ xs) done len (length xs)) (formed : Formed Γ (entry Γ xs) done x) (fine : Γ.good x.cost)
    (above : (i : ℕ) → i < done → Γ.le (entry Γ xs i).cost x.cost) where
  taken_at : (k n : ℕ) → done ≤ k → k < n → k < length xs → n ≤ length xs → len ≤ n → ((j : ℕ) → j < n → j ≢ k → j < len)
      → ((j : ℕ) → j < n → j ≢ k → (entry Γ xs j).standings ≡ x.standings → ⊥)
      → (k < len → (x.standings ≡ (entry Γ xs k).standings) × Γ.le x.cost (entry Γ xs k).cost)
      → Taken Γ xs done len x (set xs k x) n
  taken_at k n low inside within room more old alone lower =
      let here = get_or-set_same xs k x (blank Γ) within in
      let there : (j : ℕ) → j ≢ k → entry Γ (set xs k x) j ≡ entry Γ xs j = λ j ne. get_or-set_other xs k j x (blank Γ) ne in (
        put_grown so (entry Γ xs) (entry Γ (set xs k x)) done len n (length xs) k x kept formed fine above low inside room more old here there alone lower,
        put_covered so (entry Γ xs) (entry Γ (set xs k x)) done len n (length xs) k x kept formed fine above low inside room more old here there alone lower,
      )

  pub taken : (ys : List (Sort C)) (n : ℕ) → Offered Γ.le (blank Γ) xs len x ys n → Taken Γ xs done len x ys n
  taken ys n (no_better k lt eq le p q) =
      rw (p, q) (grown_none (entry Γ xs) done len (length xs) kept, (k, lt, eq, le))
  taken ys n (better k lt eq higher p q) =
      let low : done ≤ k = elim (cases_lt k done) [ inl h ↦ absurd (higher (above k h)) | inr h ↦ h ] in
      let fits : len ≤ length xs = kept.fits in
      rw (p, q) (taken_at k len low lt (omega arith) fits (omega arith) (λ j h ne. h)
      (λ j h ne eq'. ne (kept.apart j k h lt (eq' ∙ sym eq)))
      (λ _. (sym eq, le_flip so _ _ (kept.fine k lt) fine higher)))
  taken ys n (another absent room p q) =
      let w : done ≤ len = kept.within in
      rw (p, q) (taken_at len (len + 1) w (omega arith) room (omega arith) (omega arith) (λ j h ne. omega arith)
      (λ j h ne. absent j (omega arith))
      (λ h. absurd (omega arith)))
