-- How forests fall into sorts.
use Rattle.std.specs.Prelude.{◌≡◌, ℕ, ◌<◌, List, [], length, Some, None, Option, slice_index}
use Rattle.forest.specs.Forest.{Forest, nil, text, node, Label}
use Rattle.survey.specs.declared.types.Standings.{Standings}
use Rattle.survey.specs.declared.types.Leaves.{Leaves}

pub record Model : Type 1 where
  -- The forest counts.
  pub counts : Forest → Type 0
  -- The forest has this sort.
  pub has : Forest → Standings → Type 0
  -- A node with this label and content has these leaves: the leaves that admit it.
  pub has_leaves : ℕ → Forest → Leaves → Type 0
  -- The labels to try.
  pub labels : List ℕ

-- Under the second label a node has the leaves that it has under the first.
abbrev pub Like : Model → ℕ → ℕ → Type 0
Like s l m = (content : Forest) (ls : Leaves) → s.counts content → s.has_leaves l content ls → s.has_leaves m content ls

-- The sort of a text before a rest of sort ρ, or that no text may stand there.
abbrev pub TextSort : Model → Standings → Option Standings → Type 0
TextSort s ρ (Some σ) = (rest : Forest) → s.counts rest → s.has rest ρ → s.counts (text [] rest) × ((t : List ℕ) → s.counts (text t rest) → s.has (text t rest) σ)
TextSort s ρ None = (t : List ℕ) (rest : Forest) → s.has rest ρ → s.counts (text t rest) → ⊥

-- The leaves of a node by its label and the sort of its content.
abbrev pub NodeLeaves : Model → ℕ → Standings → Leaves → Type 0
NodeLeaves s l κ ls = (content : Forest) → s.counts content → s.has content κ → s.has_leaves l content ls

-- The sort of a node with these leaves before a rest of sort ρ.
abbrev pub NodeSort : Model → Leaves → Standings → Standings → Type 0
NodeSort s ls ρ σ = (l : ℕ) (content rest : Forest) → s.counts (node l content rest) → s.has_leaves l content ls → s.has rest ρ → s.has (node l content rest) σ

-- Parts of what counts count, nodes over what counts count, no forest has two sorts, and each label is like one that is tried.
pub record Sorts (s : Model) : Type 0 where
  pub nil_counts : s.counts nil
  pub text_rest : (t : List ℕ) (rest : Forest) → s.counts (text t rest) → s.counts rest
  pub node_parts : (l : ℕ) (content rest : Forest) → s.counts (node l content rest) → Label l × s.counts content × s.counts rest
  pub node_counts : (l : ℕ) (content rest : Forest) → Label l → s.counts content → s.counts rest → s.counts (node l content rest)
  pub one_sort : (f : Forest) (σ τ : Standings) → s.counts f → s.has f σ → s.has f τ → σ ≡ τ
  pub labels : (i : ℕ) → i < length s.labels → Label (slice_index s.labels i)
  pub alike : (l : ℕ) → Label l → (i : ℕ) × (i < length s.labels) × Like s (slice_index s.labels i) l
