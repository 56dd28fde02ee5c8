-- What a survey of all sorts promises.
use Rattle.forest.specs.Refusals.{told}
use Rattle.std.specs.Prelude.{◌≡◌, ℕ, ◌<◌, ◌≤◌, List, [], length, Ok, Err, Result, slice_index_or}
use Rattle.forest.specs.declared.fault.Fault.{Fault}
use Rattle.forest.specs.Forest.{Forest, nil, text, node}
use Rattle.measure.specs.Measure.{Costs, Rules, cost_of}
use Rattle.measure.specs.Lengths.{length_of}
use Rattle.survey.specs.declared.types.Standings.{Standings}
use Rattle.survey.specs.declared.types.Sort.{Sort}
use Rattle.survey.specs.declared.types.First.TheVariants.{Nothing, Text, Node}
use Rattle.survey.specs.Sorting.{Model}

-- A measure and a sorting.
pub record Setting (C : Type 0) : Type 1 where
  pub good : C → Type 0
  pub le : C → C → Type 0
  pub costs : Rules C
  pub sorts : Model

abbrev pub setting : {C : Type 0} → Costs C → Model → Setting C
setting m s = record { good = m.good; le = m.le; costs = m.rules; sorts = s }

-- What is read past the end of a list.
abbrev pub blank : {C : Type 0} → Setting C → Sort C
blank Γ = record { standings = record { old = 0; new = 0 }; cost = Γ.costs.of_nil; length = 0; first = Nothing; content = 0; rest = 0 }

abbrev pub entry : {C : Type 0} → Setting C → List (Sort C) → ℕ → Sort C
entry Γ xs k = slice_index_or xs k (blank Γ)

-- The forest that the first tree, the content and the rest of the entry at k spell. Its parts stand below it.
pub data Rebuilt {C : Type 0} (e : ℕ → Sort C) : ℕ → Forest → Type 0 where
  built_nil : (k : ℕ) → (e k).first ≡ Nothing → Rebuilt e k nil
  built_text : (k : ℕ) (f : Forest) → (e k).first ≡ Text → (e k).rest < k → Rebuilt e (e k).rest f → Rebuilt e k (text [] f)
  built_node : (k l : ℕ) (f g : Forest) → (e k).first ≡ Node l → (e k).content < k → (e k).rest < k
      → Rebuilt e (e k).content f → Rebuilt e (e k).rest g → Rebuilt e k (node l f g)

-- The forest counts, and has the entry's sort, cost and length.
pub record Stands {C : Type 0} (Γ : Setting C) (x : Sort C) (f : Forest) : Type 0 where
  pub counts : Γ.sorts.counts f
  pub sort : Γ.sorts.has f x.standings
  pub cost : cost_of Γ.costs f ≡ x.cost
  pub length : length_of f ≡ x.length

-- One of the first n entries has the sort of the forest, and costs no more than c.
abbrev pub Covers : {C : Type 0} → Setting C → (ℕ → Sort C) → ℕ → Forest → C → Type 0
Covers Γ e n f c = (k : ℕ) × (k < n) × Γ.sorts.has f (e k).standings × Γ.le (e k).cost c

-- The first n entries are of pairwise different sorts, each with a forest of its sort that they spell, in ascending
-- order of cost; and every forest that counts has its sort among them, at no greater cost.
pub record Surveyed {C : Type 0} (Γ : Setting C) (e : ℕ → Sort C) (n cap : ℕ) : Type 0 where
  pub fits : n ≤ cap
  pub apart : (i j : ℕ) → i < n → j < n → (e i).standings ≡ (e j).standings → i ≡ j
  pub attained : (k : ℕ) → k < n → (f : Forest) × Rebuilt e k f × Stands Γ (e k) f
  pub ascending : (i j : ℕ) → i ≤ j → j < n → Γ.le (e i).cost (e j).cost
  pub complete : (f : Forest) → Γ.sorts.counts f → Covers Γ e n f (cost_of Γ.costs f)

-- There are one more forests than `cap`, of pairwise different sorts.
pub record TooMany (s : Model) (cap : ℕ) : Type 0 where
  pub forest : ℕ → Forest
  pub sort : ℕ → Standings
  pub counted : (i : ℕ) → i ≤ cap → s.counts (forest i)
  pub sorted : (i : ℕ) → i ≤ cap → s.has (forest i) (sort i)
  pub differ : (i j : ℕ) → i ≤ cap → j ≤ cap → sort i ≡ sort j → i ≡ j

-- Refusal 21: more sorts than elements.
pub record Refused {C : Type 0} (Γ : Setting C) (cap : ℕ) (f : Fault) : Type 0 where
  pub tells : told f ≡ (21, 0)
  pub many : TooMany Γ.sorts cap

-- A survey answers how many sorts there are, and lists them; or it refuses.
abbrev pub Survey : {C : Type 0} → Setting C → List (Sort C) → Result ℕ Fault → Type 0
Survey Γ xs (Ok n) = Surveyed Γ (entry Γ xs) n (length xs)
Survey Γ xs (Err f) = Refused Γ (length xs) f
