-- What holds while a survey is made, and what each of its steps leaves. Whoever calls the survey needs none of it.
use Rattle.forest.specs.Refusals.{told}
use Rattle.std.specs.Prelude.{◌≡◌, ℕ, ◌+◌, ◌<◌, ◌≤◌, ◌≢◌, List, length, get_or, Some, None, Ok, Err, Option, Result, slice_index_or, slice_set, slice_index}
use Rattle.forest.specs.declared.fault.Fault.{Fault}
use Rattle.forest.specs.Forest.{Forest, nil, text, node, Label}
use Rattle.measure.specs.Measure.{Ordered, Lawful}
use Rattle.measure.specs.Lengths.{length_rules}
use Rattle.survey.specs.declared.types.Standings.{Standings}
use Rattle.survey.specs.declared.types.Leaves.{Leaves}
use Rattle.survey.specs.declared.types.Sort.{Sort}
use Rattle.survey.specs.declared.types.First.TheVariants.{Nothing, Text, Node}
use Rattle.survey.specs.Sorting.{Sorts, Like, TextSort}
use Rattle.survey.specs.Survey.{Setting, entry, Covers, Refused}

-- the laws that the measure and the sorting give
pub record Sound {C : Type 0} (Γ : Setting C) : Type 0 where
  pub order : Ordered Γ.good Γ.le
  pub laws : Lawful Γ.good Γ.le Γ.costs
  pub sorted : Sorts Γ.sorts

abbrev pub text_length : ℕ → ℕ
text_length rest = length_rules.of_text 0 rest

abbrev pub node_length : ℕ → ℕ → ℕ
node_length content rest = length_rules.of_node content rest

abbrev pub text_cost : {C : Type 0} → Setting C → Sort C → C
text_cost Γ r = Γ.costs.of_text 0 r.cost

abbrev pub node_cost : {C : Type 0} → Setting C → Sort C → Sort C → C
node_cost Γ c r = Γ.costs.of_node c.cost r.cost

-- the sort of every node of the label over a content and a rest of the two sorts
abbrev pub NodeOf : {C : Type 0} → Setting C → ℕ → Standings → Standings → Standings → Type 0
NodeOf Γ l κ ρ σ = (c f : Forest) → Γ.sorts.counts c → Γ.sorts.counts f → Γ.sorts.has c κ → Γ.sorts.has f ρ → Γ.sorts.has (node l c f) σ

-- x is nil, an empty text before an entry below `lim`, or a node over two of them
pub data Formed {C : Type 0} (Γ : Setting C) (e : ℕ → Sort C) (lim : ℕ) (x : Sort C) : Type 0 where
  as_nil : x.first ≡ Nothing → Γ.sorts.has nil x.standings → x.cost ≡ Γ.costs.of_nil → x.length ≡ 0 → Formed Γ e lim x
  as_text : x.first ≡ Text → x.rest < lim
      → TextSort Γ.sorts (e x.rest).standings (Some x.standings) → x.cost ≡ text_cost Γ (e x.rest) → x.length ≡ text_length (e x.rest).length
      → Formed Γ e lim x
  as_node : (l : ℕ) → x.first ≡ Node l → Label l → x.content < lim → x.rest < lim
      → NodeOf Γ l (e x.content).standings (e x.rest).standings x.standings → x.cost ≡ node_cost Γ (e x.content) (e x.rest)
      → x.length ≡ node_length (e x.content).length (e x.rest).length
      → Formed Γ e lim x

-- the first `done` of the `len` entries are settled; the list has room for `cap`
pub record Kept {C : Type 0} (Γ : Setting C) (e : ℕ → Sort C) (done len cap : ℕ) : Type 0 where
  pub sound : Sound Γ
  pub within : done ≤ len
  pub fits : len ≤ cap
  pub apart : (i j : ℕ) → i < len → j < len → (e i).standings ≡ (e j).standings → i ≡ j
  pub settled : (k : ℕ) → k < done → Formed Γ e k (e k)
  pub tentative : (k : ℕ) → done ≤ k → k < len → Formed Γ e done (e k)
  pub fine : (k : ℕ) → k < len → Γ.good (e k).cost
  pub ascending : (i j : ℕ) → i < done → i ≤ j → j < len → Γ.le (e i).cost (e j).cost

-- of a list
abbrev pub Keeps : {C : Type 0} → Setting C → List (Sort C) → ℕ → ℕ → Type 0
Keeps Γ xs done len = Kept Γ (entry Γ xs) done len (length xs)

-- an entry has the sort, and costs no more
abbrev pub Covered : {C : Type 0} → Setting C → (ℕ → Sort C) → ℕ → Standings → C → Type 0
Covered Γ e n σ c = (k : ℕ) × (k < n) × ((e k).standings ≡ σ) × Γ.le (e k).cost c

-- each of the forests that P says is covered at the cost
abbrev pub Covering : {C : Type 0} → Setting C → (Forest → Type 0) → C → (ℕ → Sort C) → ℕ → Type 0
Covering Γ P c e n = (f : Forest) → P f → Covers Γ e n f c

-- a text before a rest of the sort
abbrev pub TextBefore : {C : Type 0} → Setting C → Standings → Forest → Type 0
TextBefore Γ ρ nil = ⊥
TextBefore Γ ρ (text t r) = Γ.sorts.counts (text t r) × Γ.sorts.has r ρ
TextBefore Γ ρ (node l c r) = ⊥

-- a node with the leaves before a rest of the sort
abbrev pub TreeBefore : {C : Type 0} → Setting C → Leaves → Standings → Forest → Type 0
TreeBefore Γ ls ρ nil = ⊥
TreeBefore Γ ls ρ (text t r) = ⊥
TreeBefore Γ ls ρ (node l c r) = Γ.sorts.counts (node l c r) × Γ.sorts.has_leaves l c ls × Γ.sorts.has r ρ

-- a node with a label like this one, over a content and before a rest of the sorts
abbrev pub NodeOver : {C : Type 0} → Setting C → ℕ → Standings → Standings → Forest → Type 0
NodeOver Γ l₀ κ ρ nil = ⊥
NodeOver Γ l₀ κ ρ (text t r) = ⊥
NodeOver Γ l₀ κ ρ (node l c r) = Γ.sorts.counts (node l c r) × Like Γ.sorts l₀ l × Γ.sorts.has c κ × Γ.sorts.has r ρ

abbrev pub TextCovered : {C : Type 0} → Setting C → Sort C → (ℕ → Sort C) → ℕ → Type 0
TextCovered Γ x e n = Covering Γ (TextBefore Γ x.standings) (text_cost Γ x) e n

abbrev pub TreeCovered : {C : Type 0} → Setting C → Leaves → Sort C → Sort C → (ℕ → Sort C) → ℕ → Type 0
TreeCovered Γ ls x y e n = Covering Γ (TreeBefore Γ ls y.standings) (node_cost Γ x y) e n

abbrev pub NodeCovered : {C : Type 0} → Setting C → ℕ → Sort C → Sort C → (ℕ → Sort C) → ℕ → Type 0
NodeCovered Γ l x y e n = Covering Γ (NodeOver Γ l x.standings y.standings) (node_cost Γ x y) e n

-- what can be made of the first `done` entries is covered
pub record Closed {C : Type 0} (Γ : Setting C) (e : ℕ → Sort C) (done len : ℕ) : Type 0 where
  pub bare : Covers Γ e len nil Γ.costs.of_nil
  pub texts : (r : ℕ) → r < done → TextCovered Γ (e r) e len
  pub nodes : (i c r : ℕ) → i < length Γ.sorts.labels → c < done → r < done → NodeCovered Γ (slice_index Γ.sorts.labels i) (e c) (e r) e len

-- no entry of the first `len` has the sort
abbrev pub Absent : {C : Type 0} → (ℕ → Sort C) → ℕ → Standings → Type 0
Absent e len σ = (k : ℕ) → k < len → (e k).standings ≢ σ

-- the place of a sort among the first `len`
abbrev pub Found : {C : Type 0} → List (Sort C) → ℕ → Standings → Option ℕ → Type 0
Found {C} xs len σ (Some k) = (k < len) × ((d : Sort C) → (get_or xs k d).standings ≡ σ)
Found {C} xs len σ None = (d : Sort C) → Absent (λ k. get_or xs k d) len σ

-- the entry at r costs at most as much as each from a on and before b
abbrev pub LeastIn : {C : Type 0} → (C → C → Type 0) → List (Sort C) → ℕ → ℕ → ℕ → Type 0
LeastIn {C} le xs a b r = (k : ℕ) (d : Sort C) → a ≤ k → k < b → le (get_or xs r d).cost (get_or xs k d).cost

-- the costs of the first `len` are costs
abbrev pub AllGood : {C : Type 0} → (C → Type 0) → List (Sort C) → ℕ → Type 0
AllGood {C} good xs len = (k : ℕ) (d : Sort C) → k < len → good (get_or xs k d).cost

-- x offered to the `len` entries of xs left ys with n entries; d is what stands past the end
pub data Offered {C : Type 0} (le : C → C → Type 0) (d : Sort C) (xs : List (Sort C)) (len : ℕ) (x : Sort C) (ys : List (Sort C)) (n : ℕ) : Type 0 where
  no_better : (k : ℕ) → k < len → (get_or xs k d).standings ≡ x.standings → le (get_or xs k d).cost x.cost → ys ≡ xs → n ≡ len → Offered le d xs len x ys n
  better : (k : ℕ) → k < len → (get_or xs k d).standings ≡ x.standings → (le (get_or xs k d).cost x.cost → ⊥) → ys ≡ slice_set xs k x → n ≡ len → Offered le d xs len x ys n
  another : Absent (λ k. get_or xs k d) len x.standings → len < length xs → ys ≡ slice_set xs len x → n ≡ len + 1 → Offered le d xs len x ys n

pub record NoRoom {C : Type 0} (d : Sort C) (xs : List (Sort C)) (len : ℕ) (x : Sort C) (f : Fault) : Type 0 where
  pub tells : told f ≡ (21, 0)
  pub full : length xs ≤ len
  pub absent : Absent (λ k. get_or xs k d) len x.standings

abbrev pub Offer : {C A : Type 0} → (C → C → Type 0) → Sort C → List (Sort C) → ℕ → Sort C → List (Sort C) → ℕ → Result A Fault → Type 0
Offer le d xs len x ys n (Ok _) = Offered le d xs len x ys n
Offer le d xs len x ys n (Err f) = NoRoom d xs len x f

-- the cheapest from `done` on has changed places with the entry at `done`
pub record Settled {C : Type 0} (le : C → C → Type 0) (d : Sort C) (xs : List (Sort C)) (done len : ℕ) (ys : List (Sort C)) : Type 0 where
  pub place : ℕ
  pub low : done ≤ place
  pub high : place < len
  pub least : (k : ℕ) → done ≤ k → k < len → le (get_or xs place d).cost (get_or xs k d).cost
  pub to : get_or ys done d ≡ slice_index_or xs place d
  pub back : get_or ys place d ≡ slice_index_or xs done d
  pub there : (j : ℕ) → j ≢ done → j ≢ place → slice_index_or ys j d ≡ slice_index_or xs j d

-- the settled entries stay, and what was covered is
pub record Grown {C : Type 0} (Γ : Setting C) (e e' : ℕ → Sort C) (done len n cap : ℕ) : Type 0 where
  pub kept : Kept Γ e' done n cap
  pub same : (k : ℕ) → k < done → e' k ≡ e k
  pub covers : (σ : Standings) (c : C) → Γ.good c → Covered Γ e len σ c → Covered Γ e' n σ c

-- a step of the list to ys with n entries, or refusal 21
abbrev pub Grows : {C A : Type 0} → Setting C → List (Sort C) → ℕ → ℕ → List (Sort C) → ℕ → ((ℕ → Sort C) → (ℕ → Sort C) → Type 0) → Result A Fault → Type 0
Grows Γ xs last len ys n P (Ok _) = Grown Γ (entry Γ xs) (entry Γ ys) (last + 1) len n (length xs) × P (entry Γ xs) (entry Γ ys)
Grows Γ xs last len ys n P (Err f) = Refused Γ (length xs) f

-- a step that covers a sort at a cost
abbrev pub Relaxed : {C A : Type 0} → Setting C → List (Sort C) → ℕ → ℕ → Standings → C → List (Sort C) → ℕ → Result A Fault → Type 0
Relaxed Γ xs last len σ c ys n = Grows Γ xs last len ys n (λ e e'. Covered Γ e' n σ c)

-- an empty text before the last entry
abbrev pub Texted : {C A : Type 0} → Setting C → List (Sort C) → ℕ → ℕ → List (Sort C) → ℕ → Result A Fault → Type 0
Texted Γ xs last len ys n = Grows Γ xs last len ys n (λ e e'. TextCovered Γ (e last) e' n)

-- the nodes over `last` before a settled entry, and over one before `last`
abbrev pub NodesAround : {C : Type 0} → Setting C → (ℕ → Sort C) → (ℕ → Sort C) → ℕ → ℕ → Type 0
NodesAround Γ e e' last n = (i k : ℕ) → i < length Γ.sorts.labels → k < last + 1
    → NodeCovered Γ (slice_index Γ.sorts.labels i) (e last) (e k) e' n × NodeCovered Γ (slice_index Γ.sorts.labels i) (e k) (e last) e' n
