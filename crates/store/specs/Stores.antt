-- What a store holds: its lists, the first first, and the memory that is free.
use Rattle.std.specs.Prelude.{◌≡◌, ℕ, ◌-◌, ◌<◌, ◌≤◌, min, List, [], ◌∷◌, ◌++◌, length, drop, Some, None, Ok, Err, vec_items, Option, Result, slice_index_or}
use Rattle.std.specs.Borrow.{Bor}
use Rattle.store.specs.declared.Full.{Full}
use Rattle.store.specs.declared.Store.{Store}
use Rattle.store.specs.Packing.{cuts, total}

-- The lists held.
abbrev pub lists : {T : Type 0} {N : ℕ} → Store T N → List (List T)
lists s = cuts (vec_items s.memory) s.spans s.count

-- The memory that no list has taken.
abbrev pub free : {T : Type 0} {N : ℕ} → Store T N → List T
free s = drop s.used (vec_items s.memory)

-- There is room for one more list of n items.
abbrev pub Takes : {T : Type 0} {N : ℕ} → Store T N → ℕ → Type 0
Takes {T} {N} s n = (length (lists s) < N) × (n ≤ min (length (free s)) (s.limit - total (lists s)))

-- s' holds one list more than s, the last, and has that much less memory free.
pub record Appended {T : Type 0} {N : ℕ} (s : Store T N) (x : List T) (s' : Store T N) : Type 0 where
  pub listed : lists s' ≡ lists s ++ x ∷ []
  pub left : free s' ≡ drop (length x) (free s)
  pub same_limit : s'.limit ≡ s.limit

-- The list is appended where there is room for it, and its index is told; else nothing changes.
abbrev pub Appends : {T : Type 0} {N : ℕ} → Store T N → List T → Result ℕ Full → Store T N → Type 0
Appends s x (Ok index) s' = Takes s (length x) × (index ≡ length (lists s)) × Appended s x s'
Appends s x (Err full) s' = (Takes s (length x) → ⊥) × (s' ≡ s)

-- The list of the index, where there is one.
abbrev pub Found : {T : Type 0} → List (List T) → ℕ → Option (Bor (List T)) → Type 0
Found xs k None = length xs ≤ k
Found xs k (Some x) = (k < length xs) × (x.now ≡ slice_index_or xs k [])
