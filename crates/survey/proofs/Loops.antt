-- The steps of the loops.
use Rattle.std.proofs.Common.{◌≡◌, ℕ, ◌+◌, ◌<◌, ◌≤◌, ◌⊎◌, List, set, sym, refl, ap, ◌∙◌, subst, get_or-set_same, inl, inr, arith, length, slice_index}
use Rattle.survey.specs.declared.types.Sort.{Sort}
use Rattle.forest.specs.declared.fault.Fault.{Fault}
use Rattle.survey.specs.declared.types.First.TheVariants.{Nothing}
use Rattle.survey.proofs.Basics.{below_or_at, covering_on, good_at, le_self}
use Rattle.survey.specs.Survey.{Covers, Refused, Setting, blank, entry}
use Rattle.forest.specs.Forest.{Forest, nil}
use Rattle.survey.specs.declared.types.Leaves.{Leaves}
use Rattle.survey.specs.Sorting.{Sorts}
use Rattle.survey.specs.Steps.{Closed, Formed, NoRoom, Grown, Kept, Offered, another, better, no_better, NodeCovered, NodesAround, Sound, TextCovered, TreeCovered, as_nil, node_cost}

-- another count of the same room
pub kept_cap : {C : Type 0} {Γ : Setting C} {e : ℕ → Sort C} {done len cap cap' : ℕ} → cap ≡ cap' → Kept Γ e done len cap → Kept Γ e done len cap'
kept_cap {Γ} {e} {done} {len} eq h = subst (λ (c : ℕ). Kept Γ e done len c) eq h

pub grown_cap : {C : Type 0} {Γ : Setting C} {e e' : ℕ → Sort C} {done len n cap cap' : ℕ} → cap ≡ cap' → Grown Γ e e' done len n cap → Grown Γ e e' done len n cap'
grown_cap {Γ} {e} {e'} {done} {len} {n} eq h = subst (λ (c : ℕ). Grown Γ e e' done len n c) eq h

pub covered_node : {C : Type 0} (Γ : Setting C) (e : ℕ → Sort C) (n l : ℕ) (x x' y y' : Sort C) → x ≡ x' → y ≡ y' → NodeCovered Γ l x y e n → NodeCovered Γ l x' y' e n
covered_node {C} Γ e n l x x' y y' p q z = subst (λ (u : Sort C). NodeCovered Γ l u y' e n) p (subst (λ (u : Sort C). NodeCovered Γ l x u e n) q z)

pub covered_tree : {C : Type 0} (Γ : Setting C) (e : ℕ → Sort C) (n : ℕ) (ls : Leaves) (x x' y y' : Sort C) → x ≡ x' → y ≡ y' → TreeCovered Γ ls x y e n → TreeCovered Γ ls x' y' e n
covered_tree {C} Γ e n ls x x' y y' p q z = subst (λ (u : Sort C). TreeCovered Γ ls u y' e n) p (subst (λ (u : Sort C). TreeCovered Γ ls x u e n) q z)

pub covered_text : {C : Type 0} (Γ : Setting C) (e : ℕ → Sort C) (n : ℕ) (x x' : Sort C) → x ≡ x' → TextCovered Γ x e n → TextCovered Γ x' e n
covered_text {C} Γ e n x x' p z = subst (λ (u : Sort C). TextCovered Γ u e n) p z

module _ {C : Type 0} {Γ : Setting C} (so : Sound Γ) where
  pub good_old : (e e' : ℕ → Sort C) (last len n cap : ℕ) → Grown Γ e e' (last + 1) len n cap → (i : ℕ) → i ≤ last → Γ.good (e i).cost
  good_old e e' last len n cap g i h = good_at Γ (e' i) (e i) (sym (g.same i (omega arith))) (g.kept.fine i (omega (arith, g.kept.within)))

  pub node_good : (e e' : ℕ → Sort C) (last len n cap : ℕ) → Grown Γ e e' (last + 1) len n cap → (i j : ℕ) → i ≤ last → j ≤ last → Γ.good (node_cost Γ (e i) (e j))
  node_good e e' last len n cap g i j hi hj = so.laws.good_node _ _ (good_old e e' last len n cap g i hi) (good_old e e' last len n cap g j hj)

  -- one more settled
  pub closed_more : (e e' : ℕ → Sort C) (last len n cap : ℕ)
      → Closed Γ e last len → Grown Γ e e' (last + 1) len n cap
      → TextCovered Γ (e last) e' n → NodesAround Γ e e' last n
      → Closed Γ e' (last + 1) n
  closed_more e e' last len n cap closed g text labels =
      record {
        bare = covering_on Γ e e' (last + 1) len n cap g (λ f. f ≡ nil) _ so.laws.good_nil (λ f p. subst (λ (f : Forest). Covers Γ e len f Γ.costs.of_nil) (sym p) closed.bare) nil refl;
        texts = λ r h. covered_text Γ e' n (e r) (e' r) (sym (g.same r h)) (go_text r (below_or_at r last h));
        nodes = λ i c r hi hc hr.
            covered_node Γ e' n (slice_index Γ.sorts.labels i) (e c) (e' c) (e r) (e' r) (sym (g.same c hc)) (sym (g.same r hr))
            (go_node i c r hi hc hr (below_or_at c last hc) (below_or_at r last hr));
      }
    where
      go_text : (r : ℕ) → (r < last) ⊎ (r ≡ last) → TextCovered Γ (e r) e' n
      go_text r (inl lt) = covering_on Γ e e' (last + 1) len n cap g _ _ (so.laws.good_text 0 _ (good_old e e' last len n cap g r (omega arith))) (closed.texts r lt)
      go_text r (inr p) = covered_text Γ e' n (e last) (e r) (ap e (sym p)) text

      go_node : (i c r : ℕ) → i < length Γ.sorts.labels → c < last + 1 → r < last + 1 → (c < last) ⊎ (c ≡ last) → (r < last) ⊎ (r ≡ last)
          → NodeCovered Γ (slice_index Γ.sorts.labels i) (e c) (e r) e' n
      go_node i c r hi hc hr (inl lc) (inl lr) = covering_on Γ e e' (last + 1) len n cap g _ _ (node_good e e' last len n cap g c r (omega arith) (omega arith)) (closed.nodes i c r hi lc lr)
      go_node i c r hi hc hr (inl lc) (inr p) = covered_node Γ e' n (slice_index Γ.sorts.labels i) (e c) (e c) (e last) (e r) refl (ap e (sym p)) (labels i c hi hc).1
      go_node i c r hi hc hr (inr p) q = covered_node Γ e' n (slice_index Γ.sorts.labels i) (e last) (e c) (e r) (e r) (ap e (sym p)) refl (labels i r hi hr).0

  -- nil alone
  module _ (e : ℕ → Sort C) (cap : ℕ) (room : 0 < cap) (first : (e 0).first ≡ Nothing) (s : Γ.sorts.has nil (e 0).standings) (c : (e 0).cost ≡ Γ.costs.of_nil) (l : (e 0).length ≡ 0) where
    at_zero : (k : ℕ) → k < 1 → e k ≡ e 0
    at_zero k h = let p : k ≡ 0 = omega arith in ap e p

    fine_zero : Γ.good (e 0).cost
    fine_zero = subst Γ.good (sym c) so.laws.good_nil

    start_kept : Kept Γ e 0 1 cap
    start_kept =
        record {
          sound = so;
          within = omega arith;
          fits = omega arith;
          apart = λ i j hi hj eq. omega arith;
          settled = λ k h. absurd (omega arith);
          tentative = λ k lo h. subst (Formed Γ e 0) (sym (at_zero k h)) (as_nil first s c l);
          fine = λ k h. good_at Γ (e 0) (e k) (at_zero k h) fine_zero;
          ascending = λ i j hi le hj. absurd (omega arith);
        }

    start_closed : Closed Γ e 0 1
    start_closed =
        record {
          bare = (0, omega arith, s, subst (Γ.le (e 0).cost) c (le_self so (e 0).cost fine_zero));
          texts = λ r h. absurd (omega arith);
          nodes = λ i a r hi ha hr. absurd (omega arith);
        }

  -- the sort of nil, offered to no sorts
  pub started : (xs ys : List (Sort C)) (len n : ℕ) (x : Sort C) → len ≡ 0 → x.first ≡ Nothing → Γ.sorts.has nil x.standings → x.cost ≡ Γ.costs.of_nil → x.length ≡ 0
      → Offered Γ.le (blank Γ) xs len x ys n → Kept Γ (entry Γ ys) 0 n (length xs) × Closed Γ (entry Γ ys) 0 n
  started xs ys len n x none first s c l (no_better k lt eq le p q) = absurd (omega arith)
  started xs ys len n x none first s c l (better k lt eq higher p q) = absurd (omega arith)
  started xs ys len n x none first s c l (another absent room p q) = rw (p, q, none) start
    where
      e : ℕ → Sort C
      e = entry Γ (set xs 0 x)

      here : e 0 ≡ x
      here = get_or-set_same xs 0 x (blank Γ) (omega arith)

      start : Kept Γ e 0 1 (length xs) × Closed Γ e 0 1
      start =
          let p = ap (λ (z : Sort C). z.first) here ∙ first in
          let q = subst (λ (z : Sort C). Γ.sorts.has nil z.standings) (sym here) s in
          let r = ap (λ (z : Sort C). z.cost) here ∙ c in
          let t = ap (λ (z : Sort C). z.length) here ∙ l in
          (start_kept e (length xs) (omega arith) p q r t, start_closed e (length xs) (omega arith) p q r t)

-- no room for the sort of nil
pub none_fits : {C : Type 0} {Γ : Setting C} (sorted : Sorts Γ.sorts) (xs ys : List (Sort C)) (len : ℕ) (x : Sort C) (f : Fault) → len ≡ 0 → Γ.sorts.has nil x.standings
    → length ys ≡ length xs → NoRoom (blank Γ) xs len x f → Refused Γ (length ys) f
none_fits sorted xs ys len x f none s same h =
    let full = h.full in
    record {
      tells = h.tells;
      many = record {
        forest = λ _. nil;
        sort = λ _. x.standings;
        counted = λ i hi. sorted.nil_counts;
        sorted = λ i hi. s;
        differ = λ i j hi hj _. omega arith;
      };
    }
