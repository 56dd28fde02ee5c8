-- What is written of an element of a survey's list.
use Rattle.std.specs.Prelude.{◌≡◌, ℕ, ◌<◌, ◌≤◌, Bool, true, false, ◌⊎◌, List, ◌++◌, length, drop, slice_index_or}
use Rattle.forest.specs.Forest.{Forest, bytes_of}
use Rattle.measure.specs.Lengths.{length_of}
use Rattle.survey.specs.declared.types.Sort.{Sort}
use Rattle.survey.specs.Survey.{Setting, entry, Rebuilt, Stands}
use Rattle.writer.specs.declared.parts.Part.{Part}
use Rattle.writer.specs.Tables.{part_at}

-- How many bytes of a show buffer are used.
abbrev pub used : ℕ
used = 65535

-- The forest's bytes are at the front of the buffer and the other bytes as they were; or it does not fit, and the buffer is as it was.
abbrev pub Put : Forest → (before after : List ℕ) → Bool → Type 0
Put f before after true = (length (bytes_of f) ≤ used) × (length (bytes_of f) ≤ length before) × (after ≡ bytes_of f ++ drop (length (bytes_of f)) before)
Put f before after false = ((used < length (bytes_of f)) ⊎ (length before < length (bytes_of f))) × (after ≡ before)

-- The entry at k of the list spells the forest.
abbrev pub Spells : {C : Type 0} → List (Sort C) → ℕ → Forest → Type 0
Spells {C} xs k f = (d : Sort C) → Rebuilt (λ j. slice_index_or xs j d) k f

-- Each entry up to the one at `top` spells a forest, and tells its length.
abbrev pub Readable : {C : Type 0} → List (Sort C) → ℕ → Type 0
Readable {C} xs top = (k : ℕ) → k ≤ top → (f : Forest) × Spells xs k f × ((d : Sort C) → length_of f ≡ (slice_index_or xs k d).length)

-- The forest that the entry at k spells is put.
pub record Written {C : Type 0} (xs : List (Sort C)) (k : ℕ) (before after : List ℕ) (shown : Bool) : Type 0 where
  pub forest : Forest
  pub spelled : Spells xs k forest
  pub put : Put forest before after shown

-- A forest of the element's sort, cost and length is put. Of a survey's list each element's forest is one.
pub record Shown {C : Type 0} (Γ : Setting C) (x : Sort C) (before after : List ℕ) (shown : Bool) : Type 0 where
  pub forest : Forest
  pub stands : Stands Γ x forest
  pub put : Put forest before after shown

-- Each of the first n elements can be shown, and what is written of it is a forest of its sort, cost and length.
pub record AllShown {C : Type 0} (Γ : Setting C) (xs : List (Sort C)) (n : ℕ) : Type 0 where
  pub readable : (k : ℕ) → k < n → Readable xs k
  pub shown : (k : ℕ) → k < n → (before after : List ℕ) (r : Bool) → Written xs k before after r → Shown Γ (entry Γ xs k) before after r

-- The table holds the first trees, contents and rests of the first n elements.
abbrev pub part_of : {C : Type 0} → Sort C → Part
part_of x = record { first = x.first; content = x.content; rest = x.rest }

abbrev pub Copied : {C : Type 0} → (ℕ → Sort C) → List Part → ℕ → Type 0
Copied e t n = (k : ℕ) → k < n → part_at t k ≡ part_of (e k)
