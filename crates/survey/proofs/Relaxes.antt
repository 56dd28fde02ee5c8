-- An offer, as a step of the survey.
use Rattle.std.proofs.Common.{◌≡◌, ℕ, ◌+◌, ◌<◌, ◌≤◌, ◌⊎◌, List, length, get_or, Some, Ok, Err, Result, sym, refl, ◌∙◌, subst, inl, inr, arith}
use Rattle.std.proofs.lemmas.Bool.{cases_lt}
use Rattle.std.proofs.lemmas.List.{get_or_default}
use Rattle.survey.specs.declared.types.Standings.{Standings}
use Rattle.survey.specs.declared.types.Sort.{Sort}
use Rattle.forest.specs.declared.fault.Fault.{Fault}
use Rattle.survey.specs.declared.types.First.TheVariants.{Text, Node}
use Rattle.survey.specs.declared.types.Tree.{Tree}
use Rattle.survey.specs.KeptTrees.{OverEntry, Joins}
use Rattle.survey.proofs.Basics.{good_at, covered_at, covers_by}
use Rattle.survey.proofs.Puts.{taken}
use Rattle.survey.proofs.Finishes.{too_many}
use Rattle.survey.specs.Survey.{Setting, blank, entry}
use Rattle.forest.specs.Forest.{nil, text, node, Label}
use Rattle.measure.specs.Lengths.{ceiling}
use Rattle.survey.specs.Sorting.{TextSort, NodeSort}
use Rattle.survey.specs.Steps.{AllGood, Formed, Kept, NodeOf, Offer, Relaxed, Sound, TextCovered, Texted, TreeCovered, as_nil, as_node, as_text, node_cost, node_length, text_cost, text_length}

-- what the list's `fine` says at any default
pub all_good : {C : Type 0} (Γ : Setting C) (xs : List (Sort C)) (done len : ℕ) → Kept Γ (entry Γ xs) done len (length xs) → AllGood Γ.good xs len
all_good {C} Γ xs done len kept k d h =
    let fits : len ≤ length xs = kept.fits in
    subst (λ (x : Sort C). Γ.good x.cost) (get_or_default xs k (blank Γ) d (omega arith)) (kept.fine k h)

-- a read, at the blank
pub read : {C : Type 0} (Γ : Setting C) (xs : List (Sort C)) (k : ℕ) (x : Sort C) → k < length xs → x ≡ get_or xs k x → x ≡ entry Γ xs k
read Γ xs k x h e = e ∙ get_or_default xs k x (blank Γ) h

module _ {C : Type 0} {Γ : Setting C} where
  formed_sized : (e : ℕ → Sort C) (lim : ℕ) (x : Sort C) → Formed Γ e lim x → x.length ≤ ceiling
  formed_sized e lim x (as_nil a s c l) = omega (arith, l)
  formed_sized e lim x (as_text a lt s c l) = omega (arith, l)
  formed_sized e lim x (as_node n a label lt lt' s c l) = omega (arith, l)

  -- no length is above the ceiling
  sized : (e : ℕ → Sort C) (done len cap : ℕ) → Kept Γ e done len cap → (k : ℕ) → k < len → (e k).length ≤ ceiling
  sized e done len cap kept k h = elim (cases_lt k done) [ inl lt ↦ formed_sized e k (e k) (kept.settled k lt) | inr ge ↦ formed_sized e done (e k) (kept.tentative k ge h) ]

-- a sort that was read at a place where one stands
pub record ReadAt {C : Type 0} (Γ : Setting C) (xs : List (Sort C)) (k : ℕ) (x : Sort C) : Type 0 where
  pub is : x ≡ entry Γ xs k
  pub fine : Γ.good x.cost
  pub short : x.length ≤ ceiling

read_at : {C : Type 0} {Γ : Setting C} (xs : List (Sort C)) (done len k : ℕ) (x : Sort C) → Kept Γ (entry Γ xs) done len (length xs) → k < len → x ≡ get_or xs k x → ReadAt Γ xs k x
read_at {C} {Γ} xs done len k x kept lt eq =
    let fits : len ≤ length xs = kept.fits in
    let is = read Γ xs k x (omega arith) eq in
    record {
      is = is;
      fine = good_at Γ (entry Γ xs k) x is (kept.fine k lt);
      short = subst (λ (z : Sort C). z.length ≤ ceiling) (sym is) (sized (entry Γ xs) done len (length xs) kept k lt);
    }

-- the content and the rest of a node
pub parts_at : {C : Type 0} {Γ : Setting C} (xs : List (Sort C)) (last len : ℕ) (t : Tree) (rest : ℕ) (x y : Sort C) → Kept Γ (entry Γ xs) (last + 1) len (length xs)
    → OverEntry Γ (entry Γ xs) (last + 1) t → rest ≤ last → x ≡ get_or xs t.content x → y ≡ get_or xs rest y → ReadAt Γ xs t.content x × ReadAt Γ xs rest y
parts_at xs last len t rest x y kept over le p q =
    (read_at xs (last + 1) len t.content x kept (omega (arith, over.content, kept.within)) p, read_at xs (last + 1) len rest y kept (omega (arith, kept.within)) q)

module _ {C : Type 0} {Γ : Setting C} (so : Sound Γ) (xs : List (Sort C)) (last len : ℕ) (kept : Kept Γ (entry Γ xs) (last + 1) len (length xs)) where
  relaxed : (x : Sort C) → Formed Γ (entry Γ xs) (last + 1) x → Γ.good x.cost → Γ.le (entry Γ xs last).cost x.cost
      → {A : Type 0} (ys : List (Sort C)) (n : ℕ) (r : Result A Fault) → Offer Γ.le (blank Γ) xs len x ys n r → Relaxed Γ xs last len x.standings x.cost ys n r
  relaxed x formed fine above ys n (Ok _) o =
      taken so xs (last + 1) len x kept formed fine
      (λ i h. so.order.trans _ _ _ (kept.fine i (omega (arith, kept.within))) (kept.fine last (omega (arith, kept.within))) fine (kept.ascending i last h (omega arith) (omega (arith, kept.within))) above)
      ys n o
  relaxed x formed fine above ys n (Err f) o =
      record { tells = o.tells; many = too_many so (entry Γ xs) (last + 1) len (length xs) kept x formed o.absent o.full }

  relaxed_at : (σ τ : Standings) (b c : C) → σ ≡ τ → b ≡ c → {A : Type 0} (ys : List (Sort C)) (n : ℕ) (r : Result A Fault) → Relaxed Γ xs last len σ b ys n r → Relaxed Γ xs last len τ c ys n r
  relaxed_at σ τ b c p q ys n (Ok _) z = (z.0, covered_at Γ (entry Γ ys) n σ τ b c p q z.1)
  relaxed_at σ τ b c p q ys n (Err f) z = z

  fits_last : last < len
  fits_last = omega (arith, kept.within)

  texted : (x : Sort C) → TextSort Γ.sorts (entry Γ xs last).standings (Some x.standings)
      → {A : Type 0} (ys : List (Sort C)) (n : ℕ) (r : Result A Fault) → Relaxed Γ xs last len x.standings (text_cost Γ (entry Γ xs last)) ys n r → Texted Γ xs last len ys n r
  texted x s ys n (Ok _) z = (z.0, go)
    where
      go : TextCovered Γ (entry Γ xs last) (entry Γ ys) n
      go nil p = absurd p
      go (text t f) p = covers_by Γ (entry Γ ys) n x.standings _ (text t f) z.1 ((s f (so.sorted.text_rest t f p.0) p.1).1 t p.0)
      go (node l c f) p = absurd p
  texted x s ys n (Err f) z = z

  pub relaxed_text : (x : Sort C) → x.first ≡ Text → x.rest ≡ last
      → TextSort Γ.sorts (entry Γ xs last).standings (Some x.standings) → x.cost ≡ text_cost Γ (entry Γ xs last) → x.length ≡ text_length (entry Γ xs last).length
      → {A : Type 0} (ys : List (Sort C)) (n : ℕ) (r : Result A Fault) → Offer Γ.le (blank Γ) xs len x ys n r
      → Texted Γ xs last len ys n r
  relaxed_text x first at s c l ys n r o =
      let g = kept.fine last fits_last in
      let P : ℕ → Type 0 = λ k. TextSort Γ.sorts (entry Γ xs k).standings (Some x.standings) in
      let Q : ℕ → Type 0 = λ k. x.cost ≡ text_cost Γ (entry Γ xs k) in
      let R : ℕ → Type 0 = λ k. x.length ≡ text_length (entry Γ xs k).length in
      texted x s ys n r
      (relaxed_at _ _ _ _ refl c ys n r
      (relaxed x (as_text first (omega (arith, at)) (subst P (sym at) s) (subst Q (sym at) c) (subst R (sym at) l))
      (subst Γ.good (sym c) (so.laws.good_text 0 _ g))
      (subst (Γ.le (entry Γ xs last).cost) (sym c) (so.laws.text_rest 0 _ g)) ys n r o))

  relaxed_node : (label content rest : ℕ) (x : Sort C) → Label label → content ≤ last → rest ≤ last → (content ≡ last) ⊎ (rest ≡ last)
      → x.first ≡ Node label → x.content ≡ content → x.rest ≡ rest
      → NodeOf Γ label (entry Γ xs content).standings (entry Γ xs rest).standings x.standings → x.cost ≡ node_cost Γ (entry Γ xs content) (entry Γ xs rest) → x.length ≡ node_length (entry Γ xs content).length (entry Γ xs rest).length
      → {A : Type 0} (ys : List (Sort C)) (n : ℕ) (r : Result A Fault) → Offer Γ.le (blank Γ) xs len x ys n r
      → Relaxed Γ xs last len x.standings (node_cost Γ (entry Γ xs content) (entry Γ xs rest)) ys n r
  relaxed_node label content rest x pos hc hr new first inner after s c l ys n r o =
      let lt : last < len = fits_last in
      let gc = kept.fine content (omega arith) in
      let gr = kept.fine rest (omega arith) in
      let P : ℕ → ℕ → Type 0 = λ i j. NodeOf Γ label (entry Γ xs i).standings (entry Γ xs j).standings x.standings in
      let Q : ℕ → ℕ → Type 0 = λ i j. x.cost ≡ node_cost Γ (entry Γ xs i) (entry Γ xs j) in
      let R : ℕ → ℕ → Type 0 = λ i j. x.length ≡ node_length (entry Γ xs i).length (entry Γ xs j).length in
      let above : Γ.le (entry Γ xs last).cost (node_cost Γ (entry Γ xs content) (entry Γ xs rest)) =
      elim new [
        | inl e ↦ subst (λ (k : ℕ). Γ.le (entry Γ xs k).cost (node_cost Γ (entry Γ xs content) (entry Γ xs rest))) e (so.laws.node_content _ _ gc gr)
        | inr e ↦ subst (λ (k : ℕ). Γ.le (entry Γ xs k).cost (node_cost Γ (entry Γ xs content) (entry Γ xs rest))) e (so.laws.node_rest _ _ gc gr)
      ] in
      relaxed_at _ _ _ _ refl c ys n r
      (relaxed x
      (as_node label first pos (omega (arith, inner)) (omega (arith, after))
      (subst (λ (i : ℕ). P i x.rest) (sym inner) (subst (P content) (sym after) s))
      (subst (λ (i : ℕ). Q i x.rest) (sym inner) (subst (Q content) (sym after) c))
      (subst (λ (i : ℕ). R i x.rest) (sym inner) (subst (R content) (sym after) l)))
      (subst Γ.good (sym c) (so.laws.good_node _ _ gc gr))
      (subst (Γ.le (entry Γ xs last).cost) (sym c) above) ys n r o)

  joins : (t : Tree) (rest : ℕ) (σ : Standings) → NodeSort Γ.sorts t.leaves (entry Γ xs rest).standings σ
      → {A : Type 0} (ys : List (Sort C)) (n : ℕ) (r : Result A Fault) → Relaxed Γ xs last len σ (node_cost Γ (entry Γ xs t.content) (entry Γ xs rest)) ys n r → Joins Γ xs last len t rest ys n r
  joins t rest σ s ys n (Ok _) z = (z.0, go)
    where
      go : TreeCovered Γ t.leaves (entry Γ xs t.content) (entry Γ xs rest) (entry Γ ys) n
      go nil p = absurd p
      go (text b f) p = absurd p
      go (node l c f) p = covers_by Γ (entry Γ ys) n σ _ (node l c f) z.1 (s l c f p.0 p.1 p.2)
  joins t rest σ s ys n (Err f) z = z

  pub joins_node : (t : Tree) (rest : ℕ) (x : Sort C) → OverEntry Γ (entry Γ xs) (last + 1) t → rest ≤ last → (t.content ≡ last) ⊎ (rest ≡ last)
      → x.first ≡ Node t.label → x.content ≡ t.content → x.rest ≡ rest
      → NodeSort Γ.sorts t.leaves (entry Γ xs rest).standings x.standings → x.cost ≡ node_cost Γ (entry Γ xs t.content) (entry Γ xs rest) → x.length ≡ node_length (entry Γ xs t.content).length (entry Γ xs rest).length
      → {A : Type 0} (ys : List (Sort C)) (n : ℕ) (r : Result A Fault) → Offer Γ.le (blank Γ) xs len x ys n r
      → Joins Γ xs last len t rest ys n r
  joins_node t rest x over hr new first inner after s c l ys n r o =
      joins t rest x.standings s ys n r
      (relaxed_node t.label t.content rest x over.label (omega (arith, over.content)) hr new first inner after
      (λ k f ck cf hk hf. s t.label k f (so.sorted.node_counts t.label k f over.label ck cf) (over.leaves k ck hk) hf) c l ys n r o)
