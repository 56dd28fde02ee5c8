-- The cheapest tentative entry is settled.
use Rattle.std.proofs.Common.{◌≡◌, ℕ, ◌+◌, ◌<◌, ◌≤◌, ◌≢◌, ◌⊎◌, List, sym, refl, ap, ◌∙◌, subst, inl, inr, arith, slice_index}
use Rattle.survey.specs.declared.types.Standings.{Standings}
use Rattle.survey.specs.declared.types.Sort.{Sort}
use Rattle.survey.specs.declared.types.Tree.{Tree}
use Rattle.survey.specs.KeptTrees.{tree_at, TreeTable}
use Rattle.survey.proofs.KeptTrees.{joined_move, met_move, over_move}
use Rattle.survey.proofs.Loops.{covered_node, covered_text}
use Rattle.survey.proofs.Basics.{same_or_not, below_or_at, formed_at, good_at, le_at, standings_at}
use Rattle.forest.specs.Forest.{Forest, nil}
use Rattle.survey.specs.Survey.{Covers, Setting, blank, entry}
use Rattle.survey.specs.Steps.{Closed, Covered, Covering, Formed, Kept, Settled, Sound}

-- e' at p is e at q, where a and b change places
abbrev Moved : ℕ → ℕ → ℕ → ℕ → Type 0
Moved a b p q = ((p ≡ a) × (q ≡ b)) ⊎ (((p ≡ b) × (q ≡ a)) ⊎ ((p ≢ a) × (p ≢ b) × (q ≡ p)))

moved_one : (a b p p' q q' : ℕ) → Moved a b p p' → Moved a b q q' → p' ≡ q' → p ≡ q
moved_one a b p p' q q' m w e = grind arith

moved_below : (a b n p q : ℕ) → a < n → b < n → Moved a b p q → p < n → q < n
moved_below a b n p q ha hb m h = grind arith

moved_above : (a b n p q : ℕ) → n ≤ a → n ≤ b → Moved a b p q → n ≤ p → n ≤ q
moved_above a b n p q ha hb m h = grind arith

module _ {C : Type 0} (e e' : ℕ → Sort C) (a b : ℕ) (to : e' a ≡ e b) (back : e' b ≡ e a) (there : (j : ℕ) → j ≢ a → j ≢ b → e' j ≡ e j) where
  comes : (p : ℕ) → (q : ℕ) × Moved a b p q × (e' p ≡ e q)
  comes p = go (same_or_not p a) (same_or_not p b)
    where
      go : (p ≡ a) ⊎ (p ≢ a) → (p ≡ b) ⊎ (p ≢ b) → (q : ℕ) × Moved a b p q × (e' p ≡ e q)
      go (inl h) k = (b, inl (h, refl), ap e' h ∙ to)
      go (inr h) (inl k) = (a, inr (inl (k, refl)), ap e' k ∙ back)
      go (inr h) (inr k) = (p, inr (inr (h, k, refl)), there p h k)

module _ {C : Type 0} {Γ : Setting C} (so : Sound Γ) (e e' : ℕ → Sort C) (done len cap b : ℕ)
    (kept : Kept Γ e done len cap) (low : done ≤ b) (high : b < len)
    (least : (k : ℕ) → done ≤ k → k < len → Γ.le (e b).cost (e k).cost)
    (to : e' done ≡ e b) (back : e' b ≡ e done) (there : (j : ℕ) → j ≢ done → j ≢ b → e' j ≡ e j) where
  from : (p : ℕ) → (q : ℕ) × Moved done b p q × (e' p ≡ e q)
  from = comes e e' done b to back there

  still : (j : ℕ) → j < done → e' j ≡ e j
  still j h = let n : j ≢ done = omega arith in let m : j ≢ b = omega arith in there j n m

  swap_settled : (k : ℕ) → k < done + 1 → Formed Γ e' k (e' k)
  swap_settled k h = go (below_or_at k done h)
    where
      go : (k < done) ⊎ (k ≡ done) → Formed Γ e' k (e' k)
      go (inl lt) = formed_at e e' k k (e k) (e' k) (still k lt) (omega arith) (λ i l. still i (omega arith)) (kept.settled k lt)
      go (inr eq) = formed_at e e' done k (e b) (e' k) (ap e' eq ∙ to) (omega arith) still (kept.tentative b low high)

  swap_ascending : (i j : ℕ) → i < done + 1 → i ≤ j → j < len → Γ.le (e' i).cost (e' j).cost
  swap_ascending i j hi le hj = go (below_or_at i done hi) (from j)
    where
      go : (i < done) ⊎ (i ≡ done) → (q : ℕ) × Moved done b j q × (e' j ≡ e q) → Γ.le (e' i).cost (e' j).cost
      go (inl lt) z = le_at Γ (e i) (e z.0) (e' i) (e' j) (still i lt) z.2 (kept.ascending i z.0 lt (moved_above done b i j z.0 (omega arith) (omega arith) z.1 le) (moved_below done b len j z.0 (omega arith) high z.1 hj))
      go (inr eq) z = le_at Γ (e b) (e z.0) (e' i) (e' j) (ap e' eq ∙ to) z.2 (least z.0 (moved_above done b done j z.0 (omega arith) low z.1 (omega arith)) (moved_below done b len j z.0 (omega arith) high z.1 hj))

  swap_kept : Kept Γ e' (done + 1) len cap
  swap_kept =
      record {
        sound = kept.sound;
        within = omega arith;
        fits = kept.fits;
        apart = λ i j hi hj eq.
            let p = from i in
            let q = from j in
            moved_one done b i p.0 j q.0 p.1 q.1
            (kept.apart p.0 q.0 (moved_below done b len i p.0 (omega arith) high p.1 hi) (moved_below done b len j q.0 (omega arith) high q.1 hj)
            (sym (standings_at p.2) ∙ eq ∙ standings_at q.2));
        settled = swap_settled;
        tentative = λ k lo hi.
            let z = from k in
            formed_at e e' done (done + 1) (e z.0) (e' k) z.2 (omega arith) still
            (kept.tentative z.0 (moved_above done b done k z.0 (omega arith) low z.1 (omega arith)) (moved_below done b len k z.0 (omega arith) high z.1 hi));
        fine = λ k h.
            let z = from k in
            good_at Γ (e z.0) (e' k) z.2 (kept.fine z.0 (moved_below done b len k z.0 (omega arith) high z.1 h));
        ascending = swap_ascending;
      }

  swap_covers : (σ : Standings) (c : C) → Covered Γ e len σ c → Covered Γ e' len σ c
  swap_covers σ c z =
      let y = comes e' e done b (sym back) (sym to) (λ j p q. sym (there j p q)) z.0 in
      (y.0, moved_below done b len z.0 y.0 (omega arith) high y.1 z.1, sym (standings_at y.2) ∙ z.2, subst (λ (u : Sort C). Γ.le u.cost c) y.2 z.3)

  swap_covering : (P : Forest → Type 0) (c : C) → Covering Γ P c e len → Covering Γ P c e' len
  swap_covering P c z f p =
      let y = z f p in
      let w = swap_covers (e y.0).standings c (y.0, y.1, refl, y.3) in
      (w.0, w.1, subst (Γ.sorts.has f) (sym w.2) y.2, w.3)

  swap_closed : Closed Γ e done len → Closed Γ e' done len
  swap_closed h =
      record {
        bare = swap_covering (λ f. f ≡ nil) _ (λ f p. subst (λ (f : Forest). Covers Γ e len f Γ.costs.of_nil) (sym p) h.bare) nil refl;
        texts = λ r lt. covered_text Γ e' len (e r) (e' r) (sym (still r lt)) (swap_covering _ _ (h.texts r lt));
        nodes = λ i c r li lc lr. covered_node Γ e' len (slice_index Γ.sorts.labels i) (e c) (e' c) (e r) (e' r) (sym (still c lc)) (sym (still r lr)) (swap_covering _ _ (h.nodes i c r li lc lr));
      }

  swap_table : (ts : List Tree) (whole : ℕ) → TreeTable Γ e ts whole done len → TreeTable Γ e' ts whole done len
  swap_table ts whole h =
      record {
        within = h.within;
        trees = record {
          over = λ t lt. over_move e e' done done (tree_at ts t) (omega arith) still (h.trees.over t lt);
          joined = λ t r lt lr. joined_move Γ e e' e' len (tree_at ts t) r (sym (still (tree_at ts t).content (h.trees.over t lt).content)) (sym (still r lr)) (swap_covering _ _ (h.trees.joined t r lt lr));
        };
        met = λ i c hi hc.
            met_move Γ e e' ts i c (sym (still c (omega (arith, h.within)))) (h.met i c hi hc);
      }

module _ {C : Type 0} {Γ : Setting C} (xs ys : List (Sort C)) (done len cap : ℕ) (t : Settled Γ.le (blank Γ) xs done len ys) (kept : Kept Γ (entry Γ xs) done len cap) where
  pub settled_kept : Kept Γ (entry Γ ys) (done + 1) len cap
  settled_kept = swap_kept kept.sound (entry Γ xs) (entry Γ ys) done len cap t.place kept t.low t.high t.least t.to t.back t.there

  pub settled_closed : Closed Γ (entry Γ xs) done len → Closed Γ (entry Γ ys) done len
  settled_closed = swap_closed kept.sound (entry Γ xs) (entry Γ ys) done len cap t.place kept t.low t.high t.least t.to t.back t.there

  pub settled_table : (ts : List Tree) (whole : ℕ) → TreeTable Γ (entry Γ xs) ts whole done len → TreeTable Γ (entry Γ ys) ts whole done len
  settled_table = swap_table kept.sound (entry Γ xs) (entry Γ ys) done len cap t.place kept t.low t.high t.least t.to t.back t.there
