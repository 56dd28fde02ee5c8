-- Standings written down: a set of places as one number, the place numbered i as its bit i.
use Rattle.std.specs.Prelude.{◌≡◌, ℕ, ◌/◌, ◌%◌, ◌^◌, ◌<◌, ◌⊎◌, ◌↔◌, List, Option, None, Some}
use Rattle.forest.specs.Forest.{Forest, nil, text, node}
use Rattle.rows.specs.Sheet.{Sheet, Leaf, places, Numbered}
use Rattle.sheet.specs.Meaning.{Admits, Stands}

-- Bit i of the number is set.
abbrev pub Bit : ℕ → ℕ → Type 0
Bit i m = m / 2 ^ i % 2 ≡ 1

-- Walking a set, a step: one member and the set of the others; or none, where the set is empty.
abbrev pub Walked : ℕ → Option ℕ → ℕ → Type 0
Walked set None rest = (set ≡ 0) × (rest ≡ 0)
Walked set (Some i) rest = (i < 64) × (rest < set) × ((j : ℕ) → Bit j set ↔ ((j ≡ i) ⊎ Bit j rest))

-- The number is the set of the places whose rows are as P says: their bits are set, and no others.
pub record SetOf (s : Sheet) (m : ℕ) (P : ℕ → Type 0) : Type 0 where
  pub bits : (i e : ℕ) → Numbered s i e → Bit i m ↔ P e
  pub no_more : m < 2 ^ places s

-- The number is the standing of the forest.
abbrev pub IsStanding : Sheet → ℕ → Forest → Type 0
IsStanding s m f = SetOf s m (Stands s f)

-- A single tree, and the forest that it makes before a rest.
pub data Tree : Type 0 where
  a_text : (bytes : List ℕ) → Tree
  a_node : (label : ℕ) → (content : Forest) → Tree

abbrev pub before : Tree → Forest → Forest
before (a_text t) r = text t r
before (a_node l c) r = node l c r

-- The leaf p admits the tree.
abbrev pub Reads : Sheet → Tree → ℕ → Type 0
Reads s t p = Leaf s p × Admits s p (before t nil)

-- The number is the set of the leaves that admit the tree.
abbrev pub AreLeaves : Sheet → ℕ → Tree → Type 0
AreLeaves s m t = SetOf s m (Reads s t)
