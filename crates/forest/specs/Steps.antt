-- What the functions that read promise each other.
use Rattle.std.specs.Prelude.{◌≡◌, ℕ, ◌+◌, ◌≤◌, ◌⊎◌, List, ◌++◌, length, drop, slice_index}
use Rattle.forest.specs.Forest.{Forest, Proper, bytes_of, depth}
use Rattle.forest.specs.Reading.{DueWithin}

-- A forest whose nodes nest at most n deep stands in the body from one offset to another.
pub record Stretch (n : ℕ) (body : List ℕ) (from to : ℕ) : Type 0 where
  pub forest : Forest
  pub proper : Proper forest
  pub shallow : depth forest ≤ n
  pub onward : from ≤ to
  pub inside : to ≤ length body
  pub is_written : drop from body ≡ bytes_of forest ++ drop to body

-- The body ends at the offset, or a closing stands there.
abbrev pub Stops : List ℕ → ℕ → Type 0
Stops body at = (at ≡ length body) ⊎ (slice_index body at ≡ 2)

-- With d nodes open at the offset, the refusal of this number and place is due.
pub record Refused (d : ℕ) (body : List ℕ) (at number place : ℕ) : Type 0 where
  pub offset : ℕ
  pub due : DueWithin d (drop at body) number offset
  pub place_is : place ≡ at + offset
