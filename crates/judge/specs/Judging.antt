-- What judging a new sheet against an old one speaks of: sorts of forests, and forests that are lost.
use Rattle.std.specs.Prelude.{◌≡◌, ℕ, ◌<◌, ◌≤◌, min, Bool, true, false, List, ◌++◌, length, drop}
use Rattle.forest.specs.Forest.{Forest, Proper, bytes_of}
use Rattle.rows.specs.Sheet.{Sheet}
use Rattle.sheet.specs.Meaning.{OfSheet, Stands}
use Rattle.measure.specs.Measure.{Costs, cost_of}
use Rattle.measure.specs.Lengths.{length_of}

-- Two forests are of one sort when their standings over both sheets are equal.
abbrev pub SameStanding : Sheet → Forest → Forest → Type 0
SameStanding s f g = (row : ℕ) → (Stands s f row → Stands s g row) × (Stands s g row → Stands s f row)

abbrev pub OneSort : Sheet → Sheet → Forest → Forest → Type 0
OneSort old new f g = SameStanding old f g × SameStanding new f g

-- There are more sorts than n: n forests and one more, no two of one sort.
pub record MoreSorts (old new : Sheet) (n : ℕ) : Type 0 where
  pub forest : ℕ → Forest
  pub proper : (i : ℕ) → i ≤ n → Proper (forest i)
  pub apart : (i j : ℕ) → i ≤ n → j ≤ n → OneSort old new (forest i) (forest j) → i ≡ j

-- The forest belongs to the old sheet and not to the new one.
pub record Lost (old new : Sheet) (f : Forest) : Type 0 where
  pub proper : Proper f
  pub of_old : OfSheet old f
  pub not_of_new : OfSheet new f → ⊥

-- Every forest of the old sheet belongs to the new one, of whatever length and depth.
abbrev pub AllKept : Sheet → Sheet → Type 0
AllKept old new = (f : Forest) → Proper f → OfSheet old f → OfSheet new f

-- The bytes at the front of a buffer, the rest of it as it was.
abbrev pub front : List ℕ → List ℕ → List ℕ
front w buffer = w ++ drop (length w) buffer

-- The bytes are shown at the buffer's front if they fit in its first 65,535 bytes; else it is left as it was.
abbrev pub Shows : List ℕ → Bool → List ℕ → List ℕ → Type 0
Shows w true buffer buffer' = (length w ≤ min (length buffer) 65535) × (buffer' ≡ front w buffer)
Shows w false buffer buffer' = (min (length buffer) 65535 < length w) × (buffer' ≡ buffer)

-- Told of a loss: the cost and the length of one lost forest, which is shown where it fits; no lost forest costs less.
pub record Told {C : Type 0} (costs : Costs C) (old new : Sheet) (cost : C) (size : ℕ) (shown : Bool) (buffer buffer' : List ℕ) : Type 0 where
  pub one : Forest
  pub lost : Lost old new one
  pub cost_is : cost ≡ cost_of costs.rules one
  pub size_is : size ≡ length_of one
  pub shows : Shows (bytes_of one) shown buffer buffer'
  pub least : (f : Forest) → Lost old new f → costs.le cost (cost_of costs.rules f)
