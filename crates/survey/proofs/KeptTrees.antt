-- The kept trees over the steps of a survey.
use Rattle.std.proofs.Common.{◌≡◌, ℕ, ◌+◌, ◌<◌, ◌≤◌, Bool, true, false, ◌&&◌, ◌⊎◌, List, [], ◌∷◌, ◌++◌, length, Ok, sym, refl, ap, ◌∙◌, subst, inl, inr, arith, slice_index}
use Rattle.std.proofs.lemmas.Bool.{both_ways, and_parts, cases_lt}
use Rattle.std.proofs.lemmas.List.{get_or_append_left, length-append}
use Rattle.std.proofs.Math.Seq.{get_or-append_seam}
use Rattle.forest.specs.Forest.{Forest, nil, text, node}
use Rattle.survey.specs.declared.types.Leaves.{Leaves}
use Rattle.survey.specs.declared.types.Sort.{Sort}
use Rattle.survey.specs.declared.types.Tree.{Tree}
use Rattle.survey.specs.Sorting.{NodeLeaves}
use Rattle.survey.specs.Survey.{Setting, entry}
use Rattle.survey.specs.Steps.{Covering, Grown, Kept, NodeOver, NodesAround, Sound, TextCovered, Texted, TreeCovered, node_cost}
use Rattle.survey.specs.KeptTrees.{no_tree, tree_at, OverEntry, Joined, NodesCovered, Trees, Alike, Met, Table, TreeTable, Before, Beyond, Fresh, Stepped, Around}
use Rattle.survey.proofs.Basics.{below_or_at, covering_on, le_self, le_at, grown_trans, grown_none}
use Rattle.survey.proofs.Loops.{grown_cap, good_old, node_good, covered_node, covered_tree}

tree_before : (ts : List Tree) (x : Tree) (t : ℕ) → t < length ts → tree_at (ts ++ x ∷ []) t ≡ tree_at ts t
tree_before ts x t lt = get_or_append_left ts (x ∷ []) no_tree t lt

tree_last : (ts : List Tree) (x : Tree) → tree_at (ts ++ x ∷ []) (length ts) ≡ x
tree_last ts x = get_or-append_seam ts x [] no_tree

module _ {C : Type 0} {Γ : Setting C} where
  pub over_move : (e e' : ℕ → Sort C) (lim lim' : ℕ) (t : Tree) → lim ≤ lim' → ((k : ℕ) → k < lim → e' k ≡ e k) → OverEntry Γ e lim t → OverEntry Γ e' lim' t
  over_move e e' lim lim' t h same r =
      record {
        label = r.label;
        content = omega (arith, r.content);
        leaves = subst (λ (u : Sort C). NodeLeaves Γ.sorts t.label u.standings t.leaves) (sym (same t.content r.content)) r.leaves;
      }

module _ {C : Type 0} (Γ : Setting C) where
  pub joined_move : (e e₁ e' : ℕ → Sort C) (n : ℕ) (t : Tree) (r : ℕ) → e t.content ≡ e₁ t.content → e r ≡ e₁ r → Joined Γ e e' n t r → Joined Γ e₁ e' n t r
  joined_move e e₁ e' n t r p q z = covered_tree Γ e' n t.leaves (e t.content) (e₁ t.content) (e r) (e₁ r) p q z

  pub nodes_move : (e e₁ e' : ℕ → Sort C) (n i c r : ℕ) → e c ≡ e₁ c → e r ≡ e₁ r → NodesCovered Γ e e' n i c r → NodesCovered Γ e₁ e' n i c r
  nodes_move e e₁ e' n i c r p q z = covered_node Γ e' n (slice_index Γ.sorts.labels i) (e c) (e₁ c) (e r) (e₁ r) p q z

  pub met_move : (e e₁ : ℕ → Sort C) (ts : List Tree) (i c : ℕ) → e c ≡ e₁ c → Met Γ e ts i c → Met Γ e₁ ts i c
  met_move e e₁ ts i c p m = (m.0, m.1, subst (λ (u : Sort C). NodeLeaves Γ.sorts (slice_index Γ.sorts.labels i) u.standings (tree_at ts m.0).leaves) p m.2, m.3)

module _ {C : Type 0} {Γ : Setting C} (so : Sound Γ) where
  -- a greater cost is covered too
  covering_le : (e : ℕ → Sort C) (n : ℕ) (P : Forest → Type 0) (b c : C) → ((k : ℕ) → k < n → Γ.good (e k).cost) → Γ.good b → Γ.good c → Γ.le b c → Covering Γ P b e n → Covering Γ P c e n
  covering_le e n P b c fine gb gc le z f p = let y = z f p in (y.0, y.1, y.2, so.order.trans _ _ _ (fine y.0 y.1) gb gc y.3 le)

  -- of two contents the earlier costs no more
  node_le : (e e' : ℕ → Sort C) (last len n cap : ℕ) → Grown Γ e e' (last + 1) len n cap → (b c r : ℕ) → b ≤ c → c < last + 1 → r < last + 1 → Γ.le (node_cost Γ (e b) (e r)) (node_cost Γ (e c) (e r))
  node_le e e' last len n cap g b c r le hc hr =
      let gb = good_old so e e' last len n cap g b (omega arith) in
      let gc = good_old so e e' last len n cap g c (omega arith) in
      let gr = good_old so e e' last len n cap g r (omega arith) in
      let up : Γ.le (e b).cost (e c).cost =
      le_at Γ (e' b) (e' c) (e b) (e c) (sym (g.same _ (omega arith))) (sym (g.same _ hc)) (g.kept.ascending b c (omega arith) le (omega (arith, g.kept.within))) in
      so.laws.mono_node _ _ _ _ gb gc gr gr up (le_self so _ gr)

  -- of two trees with the same leaves the earlier content does for the later
  pub joined_alike : (e e' : ℕ → Sort C) (last len n cap : ℕ) → Grown Γ e e' (last + 1) len n cap
      → (t t' : Tree) (r : ℕ) → t.content ≤ t'.content → t'.content < last + 1 → r < last + 1 → t.leaves ≡ t'.leaves → Joined Γ e e' n t r → Joined Γ e e' n t' r
  joined_alike e e' last len n cap g t t' r le hc hr p z =
      covering_le e' n _ _ _ g.kept.fine (node_good so e e' last len n cap g t.content r (omega arith) (omega arith)) (node_good so e e' last len n cap g t'.content r (omega arith) (omega arith))
      (node_le e e' last len n cap g t.content t'.content r le hc hr)
      (subst (λ (ls : Leaves). TreeCovered Γ ls (e t.content) (e r) e' n) p z)

  -- a tree with the leaves of a label over an entry does for that label, where its content is no later
  pub nodes_by : (e e' : ℕ → Sort C) (last len n cap : ℕ) → Grown Γ e e' (last + 1) len n cap
      → (t : Tree) (i c r : ℕ) → t.content ≤ c → c < last + 1 → r < last + 1 → NodeLeaves Γ.sorts (slice_index Γ.sorts.labels i) (e c).standings t.leaves → Joined Γ e e' n t r → NodesCovered Γ e e' n i c r
  nodes_by e e' last len n cap g t i c r le hc hr leaves z =
      covering_le e' n _ _ _ g.kept.fine (node_good so e e' last len n cap g t.content r (omega arith) (omega arith)) (node_good so e e' last len n cap g c r (omega arith) (omega arith))
      (node_le e e' last len n cap g t.content c r le hc hr) go
    where
      go : Covering Γ (NodeOver Γ (slice_index Γ.sorts.labels i) (e c).standings (e r).standings) (node_cost Γ (e t.content) (e r)) e' n
      go nil p = absurd p
      go (text b f) p = absurd p
      go (node l k f) p =
          let counted = (so.sorted.node_parts l k f p.0).1 in
          z (node l k f) (p.0, p.1 k t.leaves counted (leaves k counted p.2), p.3)

  -- one more of a row of trees before entries
  pub joined_more : (e e₁ e₂ : ℕ → Sort C) (last len n n₂ cap j : ℕ) (f : ℕ → Tree) (h : ℕ → ℕ)
      → ((k : ℕ) → k < j + 1 → (f k).content < last + 1) → ((k : ℕ) → k < j + 1 → h k < last + 1)
      → Grown Γ e e₁ (last + 1) len n cap → ((k : ℕ) → k < j → Joined Γ e e₁ n (f k) (h k))
      → Grown Γ e₁ e₂ (last + 1) n n₂ cap → Joined Γ e₁ e₂ n₂ (f j) (h j)
      → Grown Γ e e₂ (last + 1) len n₂ cap × ((k : ℕ) → k < j + 1 → Joined Γ e e₂ n₂ (f k) (h k))
  joined_more e e₁ e₂ last len n n₂ cap j f h bf bh g old g₂ new = (grown_trans e e₁ e₂ (last + 1) len n n₂ cap g g₂, λ k lt. go k lt (bf k lt) (bh k lt) (below_or_at k j lt))
    where
      go : (k : ℕ) → k < j + 1 → (f k).content < last + 1 → h k < last + 1 → (k < j) ⊎ (k ≡ j) → Joined Γ e e₂ n₂ (f k) (h k)
      go k lt hf hh (inl l) = covering_on Γ e₁ e₂ (last + 1) n n₂ cap g₂ _ _ (node_good so e e₁ last len n cap g (f k).content (h k) (omega arith) (omega arith)) (old k l)
      go k lt hf hh (inr p) =
          joined_move Γ e₁ e e₂ n₂ (f k) (h k) (g.same (f k).content hf) (g.same (h k) hh)
          (subst (λ (m : ℕ). Joined Γ e₁ e₂ n₂ (f m) (h m)) (sym p) new)

  -- one more of a row of labels over entries
  pub nodes_more : (e e₁ e₂ : ℕ → Sort C) (last len n n₂ cap j : ℕ) (P : ℕ → Type 0) (i c : ℕ → ℕ) → ((k : ℕ) → k < j + 1 → c k < last + 1)
      → Grown Γ e e₁ (last + 1) len n cap → ((k : ℕ) → k < j → P k → NodesCovered Γ e e₁ n (i k) (c k) last)
      → Grown Γ e₁ e₂ (last + 1) n n₂ cap → (P j → NodesCovered Γ e₁ e₂ n₂ (i j) (c j) last)
      → (k : ℕ) → k < j + 1 → P k → NodesCovered Γ e e₂ n₂ (i k) (c k) last
  nodes_more e e₁ e₂ last len n n₂ cap j P i c bc g old g₂ new k lt u = go (bc k lt) (below_or_at k j lt)
    where
      go : c k < last + 1 → (k < j) ⊎ (k ≡ j) → NodesCovered Γ e e₂ n₂ (i k) (c k) last
      go hc (inl l) = covering_on Γ e₁ e₂ (last + 1) n n₂ cap g₂ _ _ (node_good so e e₁ last len n cap g (c k) last (omega arith) (omega arith)) (old k l u)
      go hc (inr p) =
          nodes_move Γ e₁ e e₂ n₂ (i k) (c k) last (g.same (c k) hc) (g.same last (omega arith))
          (subst (λ (m : ℕ). NodesCovered Γ e₁ e₂ n₂ (i m) (c m) last) (sym p) (new (subst P p u)))

  -- kept trees as the list grows
  pub trees_on : (e e' : ℕ → Sort C) (ts : List Tree) (last len n cap : ℕ) → Grown Γ e e' (last + 1) len n cap → Trees Γ e ts (last + 1) len → Trees Γ e' ts (last + 1) n
  trees_on e e' ts last len n cap g s =
      record {
        over = λ t lt. over_move e e' (last + 1) (last + 1) (tree_at ts t) (omega arith) g.same (s.over t lt);
        joined = λ t r lt lr.
            let hc = (s.over t lt).content in
            joined_move Γ e e' e' n (tree_at ts t) r (sym (g.same (tree_at ts t).content hc)) (sym (g.same r lr))
            (covering_on Γ e e' (last + 1) len n cap g _ _ (node_good so e e' last len n cap g (tree_at ts t).content r (omega arith) (omega arith)) (s.joined t r lt lr));
      }

  -- one more tree
  pub trees_more : (e : ℕ → Sort C) (ts : List Tree) (done n : ℕ) (x : Tree) → Trees Γ e ts done n
      → OverEntry Γ e done x → ((r : ℕ) → r < done → Joined Γ e e n x r) → Trees Γ e (ts ++ x ∷ []) done n
  trees_more e ts done n x s over joined =
      record { over = λ t lt. one t (one_more t lt); joined = λ t r lt lr. two t r lr (one_more t lt) }
    where
      one_more : (t : ℕ) → t < length (ts ++ x ∷ []) → (t < length ts) ⊎ (t ≡ length ts)
      one_more t lt = let l = length-append ts (x ∷ []) in below_or_at t (length ts) (omega arith)

      one : (t : ℕ) → (t < length ts) ⊎ (t ≡ length ts) → OverEntry Γ e done (tree_at (ts ++ x ∷ []) t)
      one t (inl l) = subst (OverEntry Γ e done) (sym (tree_before ts x t l)) (s.over t l)
      one t (inr p) = subst (OverEntry Γ e done) (sym (ap (tree_at (ts ++ x ∷ [])) p ∙ tree_last ts x)) over

      two : (t r : ℕ) → r < done → (t < length ts) ⊎ (t ≡ length ts) → Joined Γ e e n (tree_at (ts ++ x ∷ []) t) r
      two t r lr (inl l) = subst (λ (u : Tree). Joined Γ e e n u r) (sym (tree_before ts x t l)) (s.joined t r l lr)
      two t r lr (inr p) = subst (λ (u : Tree). Joined Γ e e n u r) (sym (ap (tree_at (ts ++ x ∷ [])) p ∙ tree_last ts x)) (joined r lr)

  -- the trees kept before, now before the last entry too
  pub trees_ready : (e e₁ e₂ e₃ : ℕ → Sort C) (ts : List Tree) (last len n₁ n₂ n₃ cap : ℕ)
      → Trees Γ e ts last len → Grown Γ e e₁ (last + 1) len n₁ cap → Grown Γ e₁ e₂ (last + 1) n₁ n₂ cap → Grown Γ e₂ e₃ (last + 1) n₂ n₃ cap
      → ((t : ℕ) → t < length ts → Joined Γ e₁ e₂ n₂ (tree_at ts t) last) → Trees Γ e₃ ts (last + 1) n₃
  trees_ready e e₁ e₂ e₃ ts last len n₁ n₂ n₃ cap s g₁ g₂ g₃ before =
      record { over = over; joined = λ t r lt lr. go t r lt lr (below_or_at r last lr) }
    where
      g₀₃ : Grown Γ e e₃ (last + 1) len n₃ cap
      g₀₃ = grown_trans e e₁ e₃ (last + 1) len n₁ n₃ cap g₁ (grown_trans e₁ e₂ e₃ (last + 1) n₁ n₂ n₃ cap g₂ g₃)

      g₁₃ : Grown Γ e₁ e₃ (last + 1) n₁ n₃ cap
      g₁₃ = grown_trans e₁ e₂ e₃ (last + 1) n₁ n₂ n₃ cap g₂ g₃

      over : (t : ℕ) → t < length ts → OverEntry Γ e₃ (last + 1) (tree_at ts t)
      over t lt = over_move e e₃ last (last + 1) (tree_at ts t) (omega arith) (λ k h. g₀₃.same k (omega arith)) (s.over t lt)

      go : (t r : ℕ) → t < length ts → r < last + 1 → (r < last) ⊎ (r ≡ last) → Joined Γ e₃ e₃ n₃ (tree_at ts t) r
      go t r lt lr (inl l) =
          let hc = (over t lt).content in
          joined_move Γ e e₃ e₃ n₃ (tree_at ts t) r (sym (g₀₃.same (tree_at ts t).content hc)) (sym (g₀₃.same r lr))
          (covering_on Γ e e₃ (last + 1) len n₃ cap g₀₃ _ _ (node_good so e e₃ last len n₃ cap g₀₃ (tree_at ts t).content r (omega arith) (omega arith)) (s.joined t r lt l))
      go t r lt lr (inr p) =
          let hc = (over t lt).content in
          joined_move Γ e₁ e₃ e₃ n₃ (tree_at ts t) r (sym (g₁₃.same (tree_at ts t).content hc)) (sym (g₁₃.same r lr))
          (covering_on Γ e₂ e₃ (last + 1) n₂ n₃ cap g₃ _ _ (node_good so e₁ e₃ last n₁ n₃ cap g₁₃ (tree_at ts t).content r (omega arith) (omega arith)) (subst (Joined Γ e₁ e₂ n₂ (tree_at ts t)) (sym p) (before t lt)))

  -- a text, the kept trees before the last entry, the others before it, and the trees over it
  module _ (e e₁ e₂ e₃ e₄ : ℕ → Sort C) (ts us : List Tree) (whole last len n₁ n₂ n₃ n₄ cap : ℕ)
      (s : TreeTable Γ e ts whole last len)
      (g₁ : Grown Γ e e₁ (last + 1) len n₁ cap) (text-there : TextCovered Γ (e last) e₁ n₁)
      (g₂ : Grown Γ e₁ e₂ (last + 1) n₁ n₂ cap) (before : (t : ℕ) → t < length ts → Joined Γ e₁ e₂ n₂ (tree_at ts t) last)
      (g₃ : Grown Γ e₂ e₃ (last + 1) n₂ n₃ cap) (beyond : (c i : ℕ) → whole ≤ c → c < last → i < length Γ.sorts.labels → NodesCovered Γ e₂ e₃ n₃ i c last)
      (g₄ : Grown Γ e₃ e₄ (last + 1) n₃ n₄ cap) (trees : Trees Γ e₄ us (last + 1) n₄) (fewer : length ts ≤ length us) (same : (t : ℕ) → t < length ts → tree_at us t ≡ tree_at ts t)
      (fresh : (i r : ℕ) → i < length Γ.sorts.labels → r < last + 1 → NodesCovered Γ e₃ e₄ n₄ i last r) where
    g₀₂ : Grown Γ e e₂ (last + 1) len n₂ cap
    g₀₂ = grown_trans e e₁ e₂ (last + 1) len n₁ n₂ cap g₁ g₂

    g₀₃ : Grown Γ e e₃ (last + 1) len n₃ cap
    g₀₃ = grown_trans e e₂ e₃ (last + 1) len n₂ n₃ cap g₀₂ g₃

    g₂₄ : Grown Γ e₂ e₄ (last + 1) n₂ n₄ cap
    g₂₄ = grown_trans e₂ e₃ e₄ (last + 1) n₂ n₃ n₄ cap g₃ g₄

    g₁₄ : Grown Γ e₁ e₄ (last + 1) n₁ n₄ cap
    g₁₄ = grown_trans e₁ e₂ e₄ (last + 1) n₁ n₂ n₄ cap g₂ g₂₄

    all_grown : Grown Γ e e₄ (last + 1) len n₄ cap
    all_grown = grown_trans e e₁ e₄ (last + 1) len n₁ n₄ cap g₁ g₁₄

    good : (b c : ℕ) → b < last + 1 → c < last + 1 → Γ.good (node_cost Γ (e b) (e c))
    good b c hb hc = node_good so e e₄ last len n₄ cap all_grown b c (omega arith) (omega arith)

    all_text : TextCovered Γ (e last) e₄ n₄
    all_text = covering_on Γ e₁ e₄ (last + 1) n₁ n₄ cap g₁₄ _ _ (so.laws.good_text 0 _ (good_old so e e₁ last len n₁ cap g₁ last (omega arith))) text-there

    over : (i r : ℕ) → i < length Γ.sorts.labels → r < last + 1 → NodesCovered Γ e e₄ n₄ i last r
    over i r hi hr = nodes_move Γ e₃ e e₄ n₄ i last r (g₀₃.same last (omega arith)) (g₀₃.same r hr) (fresh i r hi hr)

    by_kept : (i c : ℕ) → i < length Γ.sorts.labels → c < last → c < whole → NodesCovered Γ e e₄ n₄ i c last
    by_kept i c hi hc hw =
        let m = s.met i c hi hw in
        let t = tree_at ts m.0 in
        let ht : t.content < last + 1 = omega (arith, m.3) in
        nodes_by e e₄ last len n₄ cap all_grown t i c last m.3 (omega arith) (omega arith) m.2
        (covering_on Γ e₂ e₄ (last + 1) n₂ n₄ cap g₂₄ _ _ (good t.content last ht (omega arith))
        (joined_move Γ e₁ e e₂ n₂ t last (g₁.same t.content ht) (g₁.same last (omega arith)) (before m.0 m.1)))

    by_each : (i c : ℕ) → i < length Γ.sorts.labels → c < last → whole ≤ c → NodesCovered Γ e e₄ n₄ i c last
    by_each i c hi hc hw =
        covering_on Γ e₃ e₄ (last + 1) n₃ n₄ cap g₄ _ _ (good c last (omega arith) (omega arith))
        (nodes_move Γ e₂ e e₃ n₃ i c last (g₀₂.same c (omega arith)) (g₀₂.same last (omega arith)) (beyond c i hw hc hi))

    all_nodes : NodesAround Γ e e₄ last n₄
    all_nodes i k hi hk = (over i k hi hk, go (below_or_at k last hk))
      where
        go : (k < last) ⊎ (k ≡ last) → NodesCovered Γ e e₄ n₄ i k last
        go (inl l) = elim (cases_lt k whole) [ inl h ↦ by_kept i k hi l h | inr h ↦ by_each i k hi l h ]
        go (inr p) = subst (λ (m : ℕ). NodesCovered Γ e e₄ n₄ i m last) (sym p) (over i last hi (omega arith))

    met_old : (i c : ℕ) → i < length Γ.sorts.labels → c < whole → Met Γ e₄ us i c
    met_old i c hi hc =
        let m = met_move Γ e e₄ ts i c (sym (all_grown.same c (omega (arith, s.within)))) (s.met i c hi hc) in
        let p = same m.0 m.1 in
        let hm = m.1 in
        (m.0, omega arith, subst (λ (u : Tree). NodeLeaves Γ.sorts (slice_index Γ.sorts.labels i) (e₄ c).standings u.leaves) (sym p) m.2, subst (λ (u : Tree). u.content ≤ c) (sym p) m.3)

    stays : TreeTable Γ e₄ us whole (last + 1) n₄
    stays = record { within = omega (arith, s.within); trees = trees; met = met_old }

    advances : last ≤ whole → ((i : ℕ) → i < length Γ.sorts.labels → Met Γ e₃ us i last) → TreeTable Γ e₄ us (last + 1) (last + 1) n₄
    advances h new =
        record { within = omega arith; trees = trees; met = λ i c hi hc. go i c hi (below_or_at c last hc) }
      where
        go : (i c : ℕ) → i < length Γ.sorts.labels → (c < last) ⊎ (c ≡ last) → Met Γ e₄ us i c
        go i c hi (inl l) = met_old i c hi (omega arith)
        go i c hi (inr p) = subst (Met Γ e₄ us i) (sym p) (met_move Γ e₃ e₄ us i last (sym (g₄.same last (omega arith))) (new i hi))

    pub all_stays : Grown Γ e e₄ (last + 1) len n₄ cap × TextCovered Γ (e last) e₄ n₄ × NodesAround Γ e e₄ last n₄ × TreeTable Γ e₄ us whole (last + 1) n₄
    all_stays = (all_grown, all_text, all_nodes, stays)

    pub all_advances : last ≤ whole → ((i : ℕ) → i < length Γ.sorts.labels → Met Γ e₃ us i last)
        → Grown Γ e e₄ (last + 1) len n₄ cap × TextCovered Γ (e last) e₄ n₄ × NodesAround Γ e e₄ last n₄ × TreeTable Γ e₄ us (last + 1) (last + 1) n₄
    all_advances h new = (all_grown, all_text, all_nodes, advances h new)

-- one label after another
module _ {C : Type 0} {Γ : Setting C} (so : Sound Γ) where
  pub stepped_trans : (xs ys zs : List (Sort C)) (last len n o : ℕ) (ts us vs : List Tree) → length ys ≡ length xs
      → Stepped Γ xs last len ts ys us n → Stepped Γ ys last n us zs vs o → Stepped Γ xs last len ts zs vs o
  stepped_trans xs ys zs last len n o ts us vs p s w =
      record {
        grown = grown_trans (entry Γ xs) (entry Γ ys) (entry Γ zs) (last + 1) len n o (length xs) s.grown (grown_cap p w.grown);
        trees = w.trees;
        fewer = omega (arith, s.fewer, w.fewer);
        same = λ t lt. w.same t (omega (arith, s.fewer)) ∙ s.same t lt;
      }

  -- a tree that is like a kept one
  pub new_known : (xs : List (Sort C)) (last len : ℕ) (ts : List Tree) (x : Tree) → Kept Γ (entry Γ xs) (last + 1) len (length xs) → Trees Γ (entry Γ xs) ts (last + 1) len
      → x.content ≡ last → Alike ts x.leaves → Stepped Γ xs last len ts xs ts len × ((r : ℕ) → r < last + 1 → Joined Γ (entry Γ xs) (entry Γ xs) len x r)
  new_known xs last len ts x k trees at a =
      let g = grown_none (entry Γ xs) (last + 1) len (length xs) k in
      let hc = (trees.over a.0 a.1).content in (
        record { grown = g; trees = trees; fewer = omega arith; same = λ t lt. refl },
        λ r lr. joined_alike so (entry Γ xs) (entry Γ xs) last len len (length xs) g (tree_at ts a.0) x r (omega arith) (omega arith) lr a.2 (trees.joined a.0 r a.1 lr),
      )

  -- one that finds no room
  new_full : (xs ys : List (Sort C)) (last len n : ℕ) (ts : List Tree) → Grown Γ (entry Γ xs) (entry Γ ys) (last + 1) len n (length xs) → Trees Γ (entry Γ xs) ts (last + 1) len
      → Stepped Γ xs last len ts ys ts n
  new_full xs ys last len n ts g trees =
      record { grown = g; trees = trees_on so (entry Γ xs) (entry Γ ys) ts last len n (length xs) g trees; fewer = omega arith; same = λ t lt. refl }

  -- one that is kept
  new_kept : (xs ys : List (Sort C)) (last len n : ℕ) (ts : List Tree) (x : Tree) → Grown Γ (entry Γ xs) (entry Γ ys) (last + 1) len n (length xs) → Trees Γ (entry Γ xs) ts (last + 1) len
      → OverEntry Γ (entry Γ xs) (last + 1) x → ((r : ℕ) → r < last + 1 → Joined Γ (entry Γ xs) (entry Γ ys) n x r)
      → Stepped Γ xs last len ts ys (ts ++ x ∷ []) n × Alike (ts ++ x ∷ []) x.leaves
  new_kept xs ys last len n ts x g trees over joined =
      let l = length-append ts (x ∷ []) in (
        record {
          grown = g;
          trees = trees_more so (entry Γ ys) ts (last + 1) n x
              (trees_on so (entry Γ xs) (entry Γ ys) ts last len n (length xs) g trees)
              (over_move (entry Γ xs) (entry Γ ys) (last + 1) (last + 1) x (omega arith) g.same over)
              (λ r lr. joined_move Γ (entry Γ xs) (entry Γ ys) (entry Γ ys) n x r (sym (g.same x.content over.content)) (sym (g.same r lr)) (joined r lr));
          fewer = omega arith;
          same = tree_before ts x;
        },
        (length ts, omega arith, ap (λ (u : Tree). u.leaves) (tree_last ts x)),
      )

  -- one that is kept if there is room
  pub new_tried : (xs ys : List (Sort C)) (last len n : ℕ) (ts us : List Tree) (met : Bool) (x : Tree) → (met ≡ true → us ≡ ts ++ x ∷ []) → (met ≡ false → us ≡ ts)
      → Grown Γ (entry Γ xs) (entry Γ ys) (last + 1) len n (length xs) → Trees Γ (entry Γ xs) ts (last + 1) len
      → OverEntry Γ (entry Γ xs) (last + 1) x → ((r : ℕ) → r < last + 1 → Joined Γ (entry Γ xs) (entry Γ ys) n x r)
      → Stepped Γ xs last len ts ys us n × (met ≡ true → Alike us x.leaves)
  new_tried xs ys last len n ts us true x room full g trees over joined =
      let z = new_kept xs ys last len n ts x g trees over joined in
      rw (room refl) (z.0, λ h. z.1)
  new_tried xs ys last len n ts us false x room full g trees over joined =
      rw (full refl) (new_full xs ys last len n ts g trees, λ h. absurd (both_ways _ refl h))

  -- one more label: x is a tree of the j-th over the last entry
  pub fresh_more : (xs ys zs : List (Sort C)) (last len n n₂ j : ℕ) (ts us vs : List Tree) (all met : Bool) (x : Tree) → length ys ≡ length xs
      → NodeLeaves Γ.sorts (slice_index Γ.sorts.labels j) (entry Γ xs last).standings x.leaves → x.content ≡ last
      → Stepped Γ xs last len ts ys us n
      → ((i r : ℕ) → i < j → r < last + 1 → NodesCovered Γ (entry Γ xs) (entry Γ ys) n i last r)
      → (all ≡ true → (i : ℕ) → i < j → Met Γ (entry Γ xs) us i last)
      → Stepped Γ ys last n us zs vs n₂
      → ((r : ℕ) → r < last + 1 → Joined Γ (entry Γ ys) (entry Γ zs) n₂ x r)
      → (met ≡ true → Alike vs x.leaves)
      → Stepped Γ xs last len ts zs vs n₂
      × ((i r : ℕ) → i < j + 1 → r < last + 1 → NodesCovered Γ (entry Γ xs) (entry Γ zs) n₂ i last r)
      × ((all && met) ≡ true → (i : ℕ) → i < j + 1 → Met Γ (entry Γ xs) vs i last)
  fresh_more xs ys zs last len n n₂ j ts us vs all met x p leaves at s old before s₂ new alike =
      (step, (λ i r lt lr. covered i r lt lr (below_or_at i j lt)), λ h i lt. go (and_parts all met h) i (below_or_at i j lt))
    where
      step : Stepped Γ xs last len ts zs vs n₂
      step = stepped_trans xs ys zs last len n n₂ ts us vs p s s₂

      covered : (i r : ℕ) → i < j + 1 → r < last + 1 → (i < j) ⊎ (i ≡ j) → NodesCovered Γ (entry Γ xs) (entry Γ zs) n₂ i last r
      covered i r lt lr (inl l) =
          covering_on Γ (entry Γ ys) (entry Γ zs) (last + 1) n n₂ (length xs) (grown_cap p s₂.grown) _ _
          (node_good so (entry Γ xs) (entry Γ zs) last len n₂ (length xs) step.grown last r (omega arith) (omega arith)) (old i r l lr)
      covered i r lt lr (inr eq) =
          let back = s.grown.same in
          subst (λ (k : ℕ). NodesCovered Γ (entry Γ xs) (entry Γ zs) n₂ k last r) (sym eq)
          (nodes_by so (entry Γ xs) (entry Γ zs) last len n₂ (length xs) step.grown x j last r (omega arith) (omega arith) lr leaves
          (joined_move Γ (entry Γ ys) (entry Γ xs) (entry Γ zs) n₂ x r (back x.content (omega arith)) (back r lr) (new r lr)))

      go : (all ≡ true) × (met ≡ true) → (i : ℕ) → (i < j) ⊎ (i ≡ j) → Met Γ (entry Γ xs) vs i last
      go h i (inl l) =
          let a = before h.0 i l in
          let lt = a.1 in
          let e = s₂.same a.0 a.1 in
          (a.0, omega (arith, s₂.fewer), subst (λ (u : Tree). NodeLeaves Γ.sorts (slice_index Γ.sorts.labels i) (entry Γ xs last).standings u.leaves) (sym e) a.2, subst (λ (u : Tree). u.content ≤ last) (sym e) a.3)
      go h i (inr eq) =
          let a = alike h.1 in
          let ct = (s₂.trees.over a.0 a.1).content in (
            a.0,
            a.1,
            subst (λ (k : ℕ). NodeLeaves Γ.sorts (slice_index Γ.sorts.labels k) (entry Γ xs last).standings (tree_at vs a.0).leaves) (sym eq)
                (subst (NodeLeaves Γ.sorts (slice_index Γ.sorts.labels j) (entry Γ xs last).standings) (sym a.2) leaves),
            omega arith,
          )

-- all that the last entry newly allows
module _ {C : Type 0} {Γ : Setting C} (so : Sound Γ) (xs ys₁ ys₂ ys₃ ys₄ : List (Sort C)) (ts us : List Tree) (whole last len n₁ n₂ n₃ n₄ : ℕ) (met : Bool)
    (l₁ : length ys₁ ≡ length xs) (l₂ : length ys₂ ≡ length xs) (l₃ : length ys₃ ≡ length xs)
    (table : Table Γ xs ts whole last len) (text-there : Texted Γ xs last len ys₁ n₁ (Ok (tt {0}))) (before : Before Γ ys₁ last n₁ ts ys₂ n₂ (Ok (tt {0})))
    (beyond : Beyond Γ ys₂ last n₂ whole ys₃ n₃ (Ok (tt {0}))) (fresh : Fresh Γ ys₃ last n₃ ts ys₄ n₄ us (Ok met)) where
  pub around_stays : Around Γ xs last len ys₄ n₄ us (Ok whole)
  around_stays =
      let s = fresh.0 in
      all_stays so (entry Γ xs) (entry Γ ys₁) (entry Γ ys₂) (entry Γ ys₃) (entry Γ ys₄) ts us whole last len n₁ n₂ n₃ n₄ (length xs) table
      text-there.0 text-there.1 (grown_cap l₁ before.0) before.1 (grown_cap l₂ beyond.0) beyond.1 (grown_cap l₃ s.grown) s.trees s.fewer s.same fresh.1

  pub around_advances : last ≤ whole → met ≡ true → Around Γ xs last len ys₄ n₄ us (Ok (last + 1))
  around_advances h all =
      let s = fresh.0 in
      all_advances so (entry Γ xs) (entry Γ ys₁) (entry Γ ys₂) (entry Γ ys₃) (entry Γ ys₄) ts us whole last len n₁ n₂ n₃ n₄ (length xs) table
      text-there.0 text-there.1 (grown_cap l₁ before.0) before.1 (grown_cap l₂ beyond.0) beyond.1 (grown_cap l₃ s.grown) s.trees s.fewer s.same fresh.1 h (fresh.2 all)

pub start_table : {C : Type 0} {Γ : Setting C} (e : ℕ → Sort C) (len : ℕ) → TreeTable Γ e [] 0 0 len
start_table e len =
    record {
      within = omega arith;
      trees = record { over = λ t lt. absurd (omega arith); joined = λ t r lt lr. absurd (omega arith) };
      met = λ i c hi hc. absurd (omega arith);
    }
