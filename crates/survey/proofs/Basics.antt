-- Small facts about settings and entries.
use Rattle.std.proofs.Common.{◌≡◌, ℕ, ◌+◌, ◌<◌, ◌≤◌, ◌≢◌, ◌⊎◌, sym, refl, ap, ◌∙◌, subst, inl, inr, arith}
use Rattle.survey.specs.declared.types.Standings.{Standings}
use Rattle.survey.specs.declared.types.Sort.{Sort}
use Rattle.forest.specs.Forest.{Forest}
use Rattle.survey.specs.Survey.{Covers, Setting}
use Rattle.survey.specs.Steps.{Covered, Covering, Formed, Grown, Kept, Sound, as_nil, as_node, as_text}

pub same_or_not : (k i : ℕ) → (k ≡ i) ⊎ (k ≢ i)
same_or_not k i = grind arith

pub below_or_at : (k i : ℕ) → k < i + 1 → (k < i) ⊎ (k ≡ i)
below_or_at k i h = grind arith

module _ {C : Type 0} {Γ : Setting C} (so : Sound Γ) where
  pub le_self : (a : C) → Γ.good a → Γ.le a a
  le_self a h = elim (so.order.total a a h h) [ inl p ↦ p | inr p ↦ p ]

  pub le_flip : (a b : C) → Γ.good a → Γ.good b → (Γ.le a b → ⊥) → Γ.le b a
  le_flip a b g h not = elim (so.order.total a b g h) [ inl p ↦ absurd (not p) | inr p ↦ p ]

  pub covered_lower : (e e' : ℕ → Sort C) (len n : ℕ) → len ≤ n
      → ((k : ℕ) → k < len → Γ.good (e k).cost) → ((k : ℕ) → k < len → Γ.good (e' k).cost)
      → ((k : ℕ) → k < len → (e' k).standings ≡ (e k).standings) → ((k : ℕ) → k < len → Γ.le (e' k).cost (e k).cost)
      → (σ : Standings) (c : C) → Γ.good c → Covered Γ e len σ c → Covered Γ e' n σ c
  covered_lower e e' len n h g g' s l σ c gc z =
      (z.0, omega (arith, z.1), s z.0 z.1 ∙ z.2, so.order.trans _ _ _ (g' z.0 z.1) (g z.0 z.1) gc (l z.0 z.1) z.3)

pub standings_at : {C : Type 0} {x y : Sort C} → y ≡ x → y.standings ≡ x.standings
standings_at {C} eq = ap (λ (z : Sort C). z.standings) eq

module _ {C : Type 0} {Γ : Setting C} where
  pub formed_moves : (e e' : ℕ → Sort C) (lim lim' : ℕ) (x : Sort C) → lim ≤ lim' → ((k : ℕ) → k < lim → e' k ≡ e k) → Formed Γ e lim x → Formed Γ e' lim' x
  formed_moves e e' lim lim' x h same (as_nil a b c d) = as_nil a b c d
  formed_moves e e' lim lim' x h same (as_text a lt s c l) =
      let q = same x.rest lt in as_text a (omega arith) (rw q s) (rw q c) (rw q l)
  formed_moves e e' lim lim' x h same (as_node label a pos lt lt' s c l) =
      let p = same x.content lt in
      let q = same x.rest lt' in as_node label a pos (omega arith) (omega arith) (rw (p, q) s) (rw (p, q) c) (rw (p, q) l)

  pub formed_at : (e e' : ℕ → Sort C) (lim lim' : ℕ) (x y : Sort C) → y ≡ x → lim ≤ lim' → ((k : ℕ) → k < lim → e' k ≡ e k) → Formed Γ e lim x → Formed Γ e' lim' y
  formed_at e e' lim lim' x y eq h same f = subst (Formed Γ e' lim') (sym eq) (formed_moves e e' lim lim' x h same f)

  pub grown_trans : (e e' e'' : ℕ → Sort C) (done len n o cap : ℕ) → Grown Γ e e' done len n cap → Grown Γ e' e'' done n o cap → Grown Γ e e'' done len o cap
  grown_trans e e' e'' done len n o cap g h =
      record {
        kept = h.kept;
        same = λ k lt. h.same k lt ∙ g.same k lt;
        covers = λ σ c gc z. h.covers σ c gc (g.covers σ c gc z);
      }

  pub grown_none : (e : ℕ → Sort C) (done len cap : ℕ) → Kept Γ e done len cap → Grown Γ e e done len len cap
  grown_none e done len cap kept = record { kept = kept; same = λ k lt. refl; covers = λ σ c gc z. z }

module _ {C : Type 0} (Γ : Setting C) where
  pub good_at : (x y : Sort C) → y ≡ x → Γ.good x.cost → Γ.good y.cost
  good_at x y eq h = subst (λ (z : Sort C). Γ.good z.cost) (sym eq) h

  pub le_at : (x y z w : Sort C) → z ≡ x → w ≡ y → Γ.le x.cost y.cost → Γ.le z.cost w.cost
  le_at x y z w p q h = subst (λ (u : Sort C). Γ.le u.cost w.cost) (sym p) (subst (λ (u : Sort C). Γ.le x.cost u.cost) (sym q) h)

  pub covered_at : (e : ℕ → Sort C) (len : ℕ) (σ τ : Standings) (b c : C) → σ ≡ τ → b ≡ c → Covered Γ e len σ b → Covered Γ e len τ c
  covered_at e len σ τ b c p q z = (z.0, z.1, z.2 ∙ p, subst (Γ.le (e z.0).cost) q z.3)

  -- what was covered still is
  pub covering_on : (e e' : ℕ → Sort C) (done len n cap : ℕ) → Grown Γ e e' done len n cap → (P : Forest → Type 0) (c : C) → Γ.good c → Covering Γ P c e len → Covering Γ P c e' n
  covering_on e e' done len n cap g P c gc z f p =
      let y = z f p in
      let w = g.covers (e y.0).standings c gc (y.0, y.1, refl, y.3) in
      (w.0, w.1, subst (Γ.sorts.has f) (sym w.2) y.2, w.3)

  -- an entry of the forest's sort covers it
  pub covers_by : (e : ℕ → Sort C) (n : ℕ) (σ : Standings) (c : C) (f : Forest) → Covered Γ e n σ c → Γ.sorts.has f σ → Covers Γ e n f c
  covers_by e n σ c f z h = (z.0, z.1, subst (Γ.sorts.has f) (sym z.2) h, z.3)
