-- Which rows admit the empty forest, and which leaves come first, last and next in a row (Berry and Sethi).
-- Nothing on this page is needed to read what a sheet means: it is how standings are worked out.
use Rattle.std.specs.Prelude.{◌≡◌, ℕ, ◌<◌, ◌≢◌}
use Rattle.std.proofs.Math.Option.{some}
use Rattle.rows.specs.Sheet.{Sheet, empty, seq, alt, many, def, at}
use Rattle.rows.specs.Sheet.{Leaf, Side, Part}

-- What working them out leans on: parts stand below, are no definitions, and no row is a part twice.
pub record WellFormed (s : Sheet) : Type 0 where
  pub lower : {e a : ℕ} {k : Side} → Part s e k a → a < e
  pub plain : {e a x : ℕ} {k : Side} → Part s e k a → at s a ≢ some (def x)
  pub once : {e e' a : ℕ} {k k' : Side} → Part s e k a → Part s e' k' a → (e ≡ e') × (k ≡ k')

-- Row e admits the empty forest.
pub data Nullable (s : Sheet) : ℕ → Type 0 where
  nul_empty : {e : ℕ} → at s e ≡ some empty → Nullable s e
  nul_seq : {e a b : ℕ} → at s e ≡ some (seq a b) → Nullable s a → Nullable s b → Nullable s e
  nul_alt_first : {e a b : ℕ} → at s e ≡ some (alt a b) → Nullable s a → Nullable s e
  nul_alt_second : {e a b : ℕ} → at s e ≡ some (alt a b) → Nullable s b → Nullable s e
  nul_many : {e a : ℕ} → at s e ≡ some (many a) → Nullable s e
  nul_def : {e a : ℕ} → at s e ≡ some (def a) → Nullable s a → Nullable s e

-- The leaf p can come first in row e.
pub data Opens (s : Sheet) (p : ℕ) : ℕ → Type 0 where
  opens_itself : Leaf s p → Opens s p p
  opens_seq_first : {e a b : ℕ} → at s e ≡ some (seq a b) → Opens s p a → Opens s p e
  opens_seq_second : {e a b : ℕ} → at s e ≡ some (seq a b) → Nullable s a → Opens s p b → Opens s p e
  opens_alt_first : {e a b : ℕ} → at s e ≡ some (alt a b) → Opens s p a → Opens s p e
  opens_alt_second : {e a b : ℕ} → at s e ≡ some (alt a b) → Opens s p b → Opens s p e
  opens_many : {e a : ℕ} → at s e ≡ some (many a) → Opens s p a → Opens s p e
  opens_def : {e a : ℕ} → at s e ≡ some (def a) → Opens s p a → Opens s p e

-- The leaf q can come last in row e.
pub data Closes (s : Sheet) (q : ℕ) : ℕ → Type 0 where
  closes_itself : Leaf s q → Closes s q q
  closes_seq_first : {e a b : ℕ} → at s e ≡ some (seq a b) → Closes s q a → Nullable s b → Closes s q e
  closes_seq_second : {e a b : ℕ} → at s e ≡ some (seq a b) → Closes s q b → Closes s q e
  closes_alt_first : {e a b : ℕ} → at s e ≡ some (alt a b) → Closes s q a → Closes s q e
  closes_alt_second : {e a b : ℕ} → at s e ≡ some (alt a b) → Closes s q b → Closes s q e
  closes_many : {e a : ℕ} → at s e ≡ some (many a) → Closes s q a → Closes s q e
  closes_def : {e a : ℕ} → at s e ≡ some (def a) → Closes s q a → Closes s q e

-- In row e the leaf p can come right after the leaf q.
pub data Next (s : Sheet) (q p : ℕ) : ℕ → Type 0 where
  next_seq_first : {e a b : ℕ} → at s e ≡ some (seq a b) → Next s q p a → Next s q p e
  next_seq_second : {e a b : ℕ} → at s e ≡ some (seq a b) → Next s q p b → Next s q p e
  next_seq_across : {e a b : ℕ} → at s e ≡ some (seq a b) → Closes s q a → Opens s p b → Next s q p e
  next_alt_first : {e a b : ℕ} → at s e ≡ some (alt a b) → Next s q p a → Next s q p e
  next_alt_second : {e a b : ℕ} → at s e ≡ some (alt a b) → Next s q p b → Next s q p e
  next_many : {e a : ℕ} → at s e ≡ some (many a) → Next s q p a → Next s q p e
  next_many_across : {e a : ℕ} → at s e ≡ some (many a) → Closes s q a → Opens s p a → Next s q p e
  next_def : {e a : ℕ} → at s e ≡ some (def a) → Next s q p a → Next s q p e
