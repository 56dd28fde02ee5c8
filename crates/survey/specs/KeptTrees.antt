-- The trees that a survey keeps, most often one for each set of leaves. Whoever calls the survey needs none of it.
use Rattle.std.specs.Prelude.{◌≡◌, ℕ, ◌+◌, ◌<◌, ◌≤◌, Bool, true, List, length, Ok, Err, Result, slice_index_or, slice_index}
use Rattle.forest.specs.declared.fault.Fault.{Fault}
use Rattle.forest.specs.Forest.{Label}
use Rattle.survey.specs.declared.types.Leaves.{Leaves}
use Rattle.survey.specs.declared.types.Sort.{Sort}
use Rattle.survey.specs.declared.types.Tree.{Tree}
use Rattle.survey.specs.Sorting.{NodeLeaves}
use Rattle.survey.specs.Survey.{Setting, entry, Refused}
use Rattle.survey.specs.Steps.{Grown, Grows, NodesAround, TextCovered, TreeCovered, NodeCovered}

-- what is read past the end
abbrev pub no_tree : Tree
no_tree = record { leaves = record { old = 0; new = 0 }; label = 0; content = 0 }

abbrev pub tree_at : List Tree → ℕ → Tree
tree_at ts t = slice_index_or ts t no_tree

-- a tree over one of the first `lim` entries
pub record OverEntry {C : Type 0} (Γ : Setting C) (e : ℕ → Sort C) (lim : ℕ) (t : Tree) : Type 0 where
  pub label : Label t.label
  pub content : t.content < lim
  pub leaves : NodeLeaves Γ.sorts t.label (e t.content).standings t.leaves

abbrev pub AllOver : {C : Type 0} → Setting C → (ℕ → Sort C) → List Tree → ℕ → Type 0
AllOver Γ e ts lim = (t : ℕ) → t < length ts → OverEntry Γ e lim (tree_at ts t)

-- e' covers the tree before the entry at r of e
abbrev pub Joined : {C : Type 0} → Setting C → (ℕ → Sort C) → (ℕ → Sort C) → ℕ → Tree → ℕ → Type 0
Joined Γ e e' n t r = TreeCovered Γ t.leaves (e t.content) (e r) e' n

-- e' covers the nodes of the i-th label over the entry at c of e before that at r
abbrev pub NodesCovered : {C : Type 0} → Setting C → (ℕ → Sort C) → (ℕ → Sort C) → ℕ → ℕ → ℕ → ℕ → Type 0
NodesCovered Γ e e' n i c r = NodeCovered Γ (slice_index Γ.sorts.labels i) (e c) (e r) e' n

-- trees, each before each of the first `done` entries
pub record Trees {C : Type 0} (Γ : Setting C) (e : ℕ → Sort C) (ts : List Tree) (done len : ℕ) : Type 0 where
  pub over : AllOver Γ e ts done
  pub joined : (t r : ℕ) → t < length ts → r < done → Joined Γ e e len (tree_at ts t) r

-- a tree has the leaves
abbrev pub Alike : List Tree → Leaves → Type 0
Alike ts leaves = (t : ℕ) × (t < length ts) × ((tree_at ts t).leaves ≡ leaves)

-- a tree has the leaves of the i-th label over the entry at c, and its content was settled no later
abbrev pub Met : {C : Type 0} → Setting C → (ℕ → Sort C) → List Tree → ℕ → ℕ → Type 0
Met Γ e ts i c = (t : ℕ) × (t < length ts) × NodeLeaves Γ.sorts (slice_index Γ.sorts.labels i) (e c).standings (tree_at ts t).leaves × ((tree_at ts t).content ≤ c)

-- the trees kept of the first `done` entries; those of the first `whole` are all met
pub record TreeTable {C : Type 0} (Γ : Setting C) (e : ℕ → Sort C) (ts : List Tree) (whole done len : ℕ) : Type 0 where
  pub within : whole ≤ done
  pub trees : Trees Γ e ts done len
  pub met : (i c : ℕ) → i < length Γ.sorts.labels → c < whole → Met Γ e ts i c

-- the same of a list of sorts
abbrev pub TreeOver : {C : Type 0} → Setting C → List (Sort C) → ℕ → Tree → Type 0
TreeOver Γ xs lim t = OverEntry Γ (entry Γ xs) lim t

abbrev pub TreesOver : {C : Type 0} → Setting C → List (Sort C) → List Tree → ℕ → Type 0
TreesOver Γ xs ts lim = AllOver Γ (entry Γ xs) ts lim

abbrev pub JoinedTrees : {C : Type 0} → Setting C → List (Sort C) → List Tree → ℕ → ℕ → Type 0
JoinedTrees Γ xs ts done len = Trees Γ (entry Γ xs) ts done len

abbrev pub Table : {C : Type 0} → Setting C → List (Sort C) → List Tree → ℕ → ℕ → ℕ → Type 0
Table Γ xs ts whole done len = TreeTable Γ (entry Γ xs) ts whole done len

-- one tree before one entry
abbrev pub Joins : {C A : Type 0} → Setting C → List (Sort C) → ℕ → ℕ → Tree → ℕ → List (Sort C) → ℕ → Result A Fault → Type 0
Joins Γ xs last len t r ys n = Grows Γ xs last len ys n (λ e e'. Joined Γ e e' n t r)

-- one tree before each settled entry
abbrev pub Over : {C A : Type 0} → Setting C → List (Sort C) → ℕ → ℕ → Tree → List (Sort C) → ℕ → Result A Fault → Type 0
Over Γ xs last len t ys n = Grows Γ xs last len ys n (λ e e'. (r : ℕ) → r < last + 1 → Joined Γ e e' n t r)

-- each of the trees before the last entry
abbrev pub Before : {C A : Type 0} → Setting C → List (Sort C) → ℕ → ℕ → List Tree → List (Sort C) → ℕ → Result A Fault → Type 0
Before Γ xs last len ts ys n = Grows Γ xs last len ys n (λ e e'. (t : ℕ) → t < length ts → Joined Γ e e' n (tree_at ts t) last)

-- each label over one entry before the last
abbrev pub Each : {C A : Type 0} → Setting C → List (Sort C) → ℕ → ℕ → ℕ → List (Sort C) → ℕ → Result A Fault → Type 0
Each Γ xs last len c ys n = Grows Γ xs last len ys n (λ e e'. (i : ℕ) → i < length Γ.sorts.labels → NodesCovered Γ e e' n i c last)

-- each label over the entries from `whole` on, before the last
abbrev pub Beyond : {C A : Type 0} → Setting C → List (Sort C) → ℕ → ℕ → ℕ → List (Sort C) → ℕ → Result A Fault → Type 0
Beyond Γ xs last len whole ys n = Grows Γ xs last len ys n (λ e e'. (c i : ℕ) → whole ≤ c → c < last → i < length Γ.sorts.labels → NodesCovered Γ e e' n i c last)

-- a step on the lists of sorts and of trees
pub record Stepped {C : Type 0} (Γ : Setting C) (xs : List (Sort C)) (last len : ℕ) (ts : List Tree) (ys : List (Sort C)) (us : List Tree) (n : ℕ) : Type 0 where
  pub grown : Grown Γ (entry Γ xs) (entry Γ ys) (last + 1) len n (length xs)
  pub trees : Trees Γ (entry Γ ys) us (last + 1) n
  pub fewer : length ts ≤ length us
  pub same : (t : ℕ) → t < length ts → tree_at us t ≡ tree_at ts t

-- one tree over the last entry, and whether a kept one is like it
abbrev pub New : {C : Type 0} → Setting C → List (Sort C) → ℕ → ℕ → List Tree → Tree → List (Sort C) → ℕ → List Tree → Result Bool Fault → Type 0
New Γ xs last len ts t ys n us (Ok met) = Stepped Γ xs last len ts ys us n
    × ((r : ℕ) → r < last + 1 → Joined Γ (entry Γ xs) (entry Γ ys) n t r)
    × (met ≡ true → Alike us t.leaves)
New Γ xs last len ts t ys n us (Err f) = Refused Γ (length xs) f

-- each label over the last entry, and whether a kept tree is like each of those
abbrev pub Fresh : {C : Type 0} → Setting C → List (Sort C) → ℕ → ℕ → List Tree → List (Sort C) → ℕ → List Tree → Result Bool Fault → Type 0
Fresh Γ xs last len ts ys n us (Ok all) = Stepped Γ xs last len ts ys us n
    × ((i r : ℕ) → i < length Γ.sorts.labels → r < last + 1 → NodesCovered Γ (entry Γ xs) (entry Γ ys) n i last r)
    × (all ≡ true → (i : ℕ) → i < length Γ.sorts.labels → Met Γ (entry Γ xs) us i last)
Fresh Γ xs last len ts ys n us (Err f) = Refused Γ (length xs) f

-- all that the entry at `last` newly allows, and how many contents have trees that are all met
abbrev pub Around : {C : Type 0} → Setting C → List (Sort C) → ℕ → ℕ → List (Sort C) → ℕ → List Tree → Result ℕ Fault → Type 0
Around Γ xs last len ys n us (Ok whole) = Grown Γ (entry Γ xs) (entry Γ ys) (last + 1) len n (length xs)
    × TextCovered Γ (entry Γ xs last) (entry Γ ys) n
    × NodesAround Γ (entry Γ xs) (entry Γ ys) last n
    × TreeTable Γ (entry Γ ys) us whole (last + 1) n
Around Γ xs last len ys n us (Err f) = Refused Γ (length xs) f
