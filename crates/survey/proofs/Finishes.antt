-- What a closed list says of every forest.
use Rattle.std.proofs.Common.{◌≡◌, ℕ, zero, suc, ◌<◌, ◌≤◌, ◌⊎◌, [], length, Some, sym, refl, ap, ◌∙◌, inl, inr, arith}
use Rattle.std.proofs.lemmas.Bool.{cases_lt}
use Rattle.forest.specs.Forest.{Forest, nil, text, node, Label}
use Rattle.measure.specs.Measure.{cost_of}
use Rattle.measure.proofs.Costs.{cost_good}
use Rattle.survey.specs.declared.types.Standings.{Standings}
use Rattle.survey.specs.declared.types.Sort.{Sort}
use Rattle.survey.specs.Sorting.{TextSort}
use Rattle.survey.specs.Survey.{Covers, Rebuilt, Setting, Stands, Surveyed, TooMany, built_nil, built_node, built_text}
use Rattle.measure.specs.Lengths.{length_of}
use Rattle.survey.specs.Steps.{Absent, Closed, NodeOf, Formed, Kept, Sound, as_nil, as_node, as_text, node_cost, node_length, text_cost, text_length}

module _ {C : Type 0} {Γ : Setting C} (so : Sound Γ) where
  stands_nil : (x : Sort C) → Γ.sorts.has nil x.standings → x.cost ≡ Γ.costs.of_nil → x.length ≡ 0 → Stands Γ x nil
  stands_nil x s c l = record { counts = so.sorted.nil_counts; sort = s; cost = sym c; length = sym l }

  stands_text : (x y : Sort C) (f : Forest) → TextSort Γ.sorts y.standings (Some x.standings) → x.cost ≡ text_cost Γ y → x.length ≡ text_length y.length → Stands Γ y f → Stands Γ x (text [] f)
  stands_text x y f s c l z =
      let w = s f z.counts z.sort in
      record {
        counts = w.0;
        sort = w.1 [] w.0;
        cost = ap (Γ.costs.of_text 0) z.cost ∙ sym c;
        length = ap text_length z.length ∙ sym l;
      }

  stands_node : (l : ℕ) (x y w : Sort C) (f g : Forest) → Label l → NodeOf Γ l y.standings w.standings x.standings → x.cost ≡ node_cost Γ y w → x.length ≡ node_length y.length w.length → Stands Γ y f → Stands Γ w g → Stands Γ x (node l f g)
  stands_node l x y w f g label s c n z v =
      record {
        counts = so.sorted.node_counts l f g label z.counts v.counts;
        sort = s f g z.counts v.counts z.sort v.sort;
        cost = ap (λ (u : C). Γ.costs.of_node u (cost_of Γ.costs g)) z.cost ∙ ap (Γ.costs.of_node y.cost) v.cost ∙ sym c;
        length = ap (λ (u : ℕ). node_length u (length_of g)) z.length ∙ ap (node_length y.length) v.length ∙ sym n;
      }

  module _ (e : ℕ → Sort C) where
    form_stands : (lim : ℕ) (x : Sort C) → ((j : ℕ) → j < lim → (f : Forest) × Rebuilt e j f × Stands Γ (e j) f) → Formed Γ e lim x → (f : Forest) × Stands Γ x f
    form_stands lim x parts (as_nil a s c l) = (nil, stands_nil x s c l)
    form_stands lim x parts (as_text a lt s c l) = let z = parts x.rest lt in (text [] z.0, stands_text x (e x.rest) z.0 s c l z.2)
    form_stands lim x parts (as_node l a pos lt lt' s c n) =
        let z = parts x.content lt in
        let v = parts x.rest lt' in
        (node l z.0 v.0, stands_node l x (e x.content) (e x.rest) z.0 v.0 pos s c n z.2 v.2)

    form_built : (k : ℕ) → ((j : ℕ) → j < k → (f : Forest) × Rebuilt e j f × Stands Γ (e j) f) → Formed Γ e k (e k) → (f : Forest) × Rebuilt e k f × Stands Γ (e k) f
    form_built k parts (as_nil a s c l) = (nil, built_nil k a, stands_nil (e k) s c l)
    form_built k parts (as_text a lt s c l) = let z = parts (e k).rest lt in (text [] z.0, built_text k z.0 a lt z.1, stands_text (e k) (e (e k).rest) z.0 s c l z.2)
    form_built k parts (as_node l a pos lt lt' s c n) =
        let z = parts (e k).content lt in
        let v = parts (e k).rest lt' in
        (node l z.0 v.0, built_node k l z.0 v.0 a lt lt' z.1 v.1, stands_node l (e k) (e (e k).content) (e (e k).rest) z.0 v.0 pos s c n z.2 v.2)

    built_below : (n : ℕ) → ((k : ℕ) → k < n → Formed Γ e k (e k)) → (fuel k : ℕ) → k < fuel → k < n → (f : Forest) × Rebuilt e k f × Stands Γ (e k) f
    built_below n formed zero k h lt = absurd (omega arith)
    built_below n formed (suc fuel) k h lt = form_built k (λ j l. built_below n formed fuel j (omega arith) (omega arith)) (formed k lt)

    pub attained : (n : ℕ) → ((k : ℕ) → k < n → Formed Γ e k (e k)) → (k : ℕ) → k < n → (f : Forest) × Rebuilt e k f × Stands Γ (e k) f
    attained n formed k lt = built_below n formed n k lt lt

  complete : (e : ℕ → Sort C) (n : ℕ) → ((k : ℕ) → k < n → Γ.good (e k).cost) → Closed Γ e n n → (f : Forest) → Γ.sorts.counts f → Covers Γ e n f (cost_of Γ.costs f)
  complete e n fine closed nil _ = closed.bare
  complete e n fine closed (text bytes r) counted =
      let y = complete e n fine closed r (so.sorted.text_rest bytes r counted) in
      let z = closed.texts y.0 y.1 (text bytes r) (counted, y.2) in
      let laws = so.laws in
      let gy = fine y.0 y.1 in
      let gr = cost_good laws r in (
        z.0,
        z.1,
        z.2,
        so.order.trans _ _ _ (fine z.0 z.1) (laws.good_text 0 _ gy) (laws.good_text (length bytes) _ gr) z.3
            (so.order.trans _ _ _ (laws.good_text 0 _ gy) (laws.good_text 0 _ gr) (laws.good_text (length bytes) _ gr) (laws.mono_text 0 _ _ gy gr y.3) (laws.least_text (length bytes) _ gr)),
      )
  complete e n fine closed (node l c r) counted =
      let parts = so.sorted.node_parts l c r counted in
      let x = complete e n fine closed c parts.1 in
      let y = complete e n fine closed r parts.2 in
      let a = so.sorted.alike l parts.0 in
      let z = closed.nodes a.0 x.0 y.0 a.1 x.1 y.1 (node l c r) (counted, a.2, x.2, y.2) in
      let laws = so.laws in
      let gx = fine x.0 x.1 in
      let gy = fine y.0 y.1 in
      let gc = cost_good laws c in
      let gr = cost_good laws r in (
        z.0,
        z.1,
        z.2,
        so.order.trans _ _ _ (fine z.0 z.1) (laws.good_node _ _ gx gy) (laws.good_node _ _ gc gr) z.3 (laws.mono_node _ _ _ _ gx gc gy gr x.3 y.3),
      )

  pub surveyed : (e : ℕ → Sort C) (n cap : ℕ) → Kept Γ e n n cap → Closed Γ e n n → Surveyed Γ e n cap
  surveyed e n cap kept closed =
      record {
        fits = kept.fits;
        apart = kept.apart;
        attained = attained e n kept.settled;
        ascending = λ i j le lt. kept.ascending i j (omega arith) le lt;
        complete = complete e n kept.fine closed;
      }

  -- more sorts than the list has room for
  module _ (e : ℕ → Sort C) (done len cap : ℕ) (kept : Kept Γ e done len cap) (x : Sort C) (formed : Formed Γ e done x) (absent : Absent e len x.standings) (full : cap ≤ len) where
    parts : (j : ℕ) → j < done → (f : Forest) × Rebuilt e j f × Stands Γ (e j) f
    parts = attained e done kept.settled

    stands_at : (k : ℕ) → k < len → (f : Forest) × Stands Γ (e k) f
    stands_at k h = elim (cases_lt k done) [ inl lt ↦ (let z = parts k lt in (z.0, z.2)) | inr ge ↦ form_stands e done (e k) parts (kept.tentative k ge h) ]

    last : (f : Forest) × Stands Γ x f
    last = form_stands e done x parts formed

    -- the forest at k, and its sort
    pub record One (k : ℕ) : Type 0 where
      pub forest : Forest
      pub sort : Standings
      pub counted : Γ.sorts.counts forest
      pub is : Γ.sorts.has forest sort
      pub which : ((k < len) × (sort ≡ (e k).standings)) ⊎ ((len ≤ k) × (sort ≡ x.standings))

    one : (k : ℕ) → One k
    one k = go (cases_lt k len)
      where
        go : (k < len) ⊎ (len ≤ k) → One k
        go (inl lt) = let z = stands_at k lt in record { forest = z.0; sort = (e k).standings; counted = z.1.counts; is = z.1.sort; which = inl (lt, refl) }
        go (inr ge) = record { forest = last.0; sort = x.standings; counted = last.1.counts; is = last.1.sort; which = inr (ge, refl) }

    pub too_many : TooMany Γ.sorts cap
    too_many =
        record {
          forest = λ k. (one k).forest;
          sort = λ k. (one k).sort;
          counted = λ k h. (one k).counted;
          sorted = λ k h. (one k).is;
          differ = λ i j hi hj eq. go i j hi hj (one i).sort (one j).sort (one i).which (one j).which eq;
        }
      where
        go : (i j : ℕ) → i ≤ cap → j ≤ cap → (σ τ : Standings) → ((i < len) × (σ ≡ (e i).standings)) ⊎ ((len ≤ i) × (σ ≡ x.standings)) → ((j < len) × (τ ≡ (e j).standings)) ⊎ ((len ≤ j) × (τ ≡ x.standings)) → σ ≡ τ → i ≡ j
        go i j hi hj σ τ (inl p) (inl q) eq = kept.apart i j p.0 q.0 (sym p.1 ∙ eq ∙ q.1)
        go i j hi hj σ τ (inl p) (inr q) eq = absurd (absent i p.0 (sym p.1 ∙ eq ∙ q.1))
        go i j hi hj σ τ (inr p) (inl q) eq = absurd (absent j q.0 (sym q.1 ∙ sym eq ∙ p.1))
        go i j hi hj σ τ (inr p) (inr q) eq = omega (arith, p.0, q.0)
