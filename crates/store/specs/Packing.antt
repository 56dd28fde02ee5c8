-- How lists lie in a memory.
use Rattle.std.specs.Prelude.{ℕ, ◌+◌, ◌<◌, ◌≤◌, List, [], ◌∷◌, map, length, take, slice_index_or, slice_range}
use Rattle.store.specs.declared.Span.{Span}

abbrev pub no_span : Span
no_span = record { start = 0; end = 0 }

-- The part of a memory that a span cuts out.
abbrev pub cut : {X : Type 0} → List X → Span → List X
cut memory s = slice_range memory s.start s.end

-- The lists of the first n spans.
abbrev pub cuts : {X : Type 0} → List X → List Span → ℕ → List (List X)
cuts memory spans n = map (cut memory) (take n spans)

-- Each of the first n spans ends at or after its start, and none past `used`.
abbrev pub Apart : List Span → ℕ → ℕ → Type 0
Apart spans n used = (k : ℕ) → k < n → ((slice_index_or spans k no_span).start ≤ (slice_index_or spans k no_span).end) × ((slice_index_or spans k no_span).end ≤ used)

-- How many items lists have together.
abbrev pub total : {X : Type 0} → List (List X) → ℕ
total [] = 0
total (x ∷ xs) = length x + total xs
