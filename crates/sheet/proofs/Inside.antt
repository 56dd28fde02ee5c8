use Rattle.std.proofs.Common.{◌≡◌, ℕ, ◌≤◌, ◌⊎◌, sym, inl, inr, arith}
use Rattle.forest.specs.Forest.{Forest}
use Rattle.rows.specs.Sheet.{Sheet, Side, first, second}
use Rattle.rows.specs.Sheet.{Part, seq_first, seq_second, alt_first, alt_second, many_part, def_part}
use Rattle.sheet.specs.Meaning.{Follows, itself, in_seq_first, in_seq_second, in_alt_first, in_alt_second, in_many, in_def}
use Rattle.rows.specs.Steps.{WellFormed}
use Rattle.rows.specs.Steps.{Opens, opens_itself, opens_seq_first, opens_seq_second, opens_alt_first, opens_alt_second, opens_many, opens_def}
use Rattle.rows.specs.Steps.{Next, next_seq_first, next_seq_second, next_seq_across, next_alt_first, next_alt_second, next_many, next_many_across, next_def}

-- Row p stands inside row e: it is e, or a part of a row that stands inside e.
pub data Inside (s : Sheet) : ℕ → ℕ → Type 0 where
  same : {e : ℕ} → Inside s e e
  up : {p w e : ℕ} {k : Side} → Part s w k p → Inside s w e → Inside s p e

pub above : {s : Sheet} {p a e : ℕ} {k : Side} → Inside s p a → Part s e k a → Inside s p e
above same x = up x same
above (up y i) x = up y (above i x)

pub inside_le : {s : Sheet} {p e : ℕ} → WellFormed s → Inside s p e → p ≤ e
inside_le w same = omega arith
inside_le w (up x i) = let h = w.lower x in let k = inside_le w i in omega arith

pub linear : {s : Sheet} {p a b : ℕ} → WellFormed s → Inside s p a → Inside s p b → Inside s a b ⊎ Inside s b a
linear w same j = inl j
linear w (up x i) same = inr (up x i)
linear w (up x i) (up y j) = linear w i (rw (w.once y x).0 at j)

-- Two parts of one row hold no row in common.
sides : first ≡ second → ⊥
sides h = cc

pub within_other : {s : Sheet} {e a b : ℕ} {k k' : Side}
    → WellFormed s → (k ≡ k' → ⊥) → Part s e k a → Part s e k' b → Inside s a b → ⊥
within_other w n x y same = n (w.once x y).1
within_other w n x y (up z i) =
    let q = (w.once z x).0 in let h = inside_le w i in let k = w.lower y in omega arith

pub apart : {s : Sheet} {p e a b : ℕ}
    → WellFormed s → Part s e first a → Part s e second b → Inside s p a → Inside s p b → ⊥
apart w x y i j =
    elim (linear w i j) [ inl h ↦ within_other w sides x y h | inr h ↦ within_other w (λ q. sides (sym q)) y x h ]

pub opens_inside : {s : Sheet} {p e : ℕ} → Opens s p e → Inside s p e
opens_inside (opens_itself l) = same
opens_inside (opens_seq_first i o) = above (opens_inside o) (seq_first i)
opens_inside (opens_seq_second i n o) = above (opens_inside o) (seq_second i)
opens_inside (opens_alt_first i o) = above (opens_inside o) (alt_first i)
opens_inside (opens_alt_second i o) = above (opens_inside o) (alt_second i)
opens_inside (opens_many i o) = above (opens_inside o) (many_part i)
opens_inside (opens_def i o) = above (opens_inside o) (def_part i)

pub follows_inside : {s : Sheet} {p e : ℕ} {h : Forest} → Follows s p e h → Inside s p e
follows_inside (itself l) = same
follows_inside (in_seq_first i x y) = above (follows_inside x) (seq_first i)
follows_inside (in_seq_second i x) = above (follows_inside x) (seq_second i)
follows_inside (in_alt_first i x) = above (follows_inside x) (alt_first i)
follows_inside (in_alt_second i x) = above (follows_inside x) (alt_second i)
follows_inside (in_many i x y) = above (follows_inside x) (many_part i)
follows_inside (in_def i x) = above (follows_inside x) (def_part i)

-- the leaf that comes next stands inside
pub next_inside : {s : Sheet} {q p e : ℕ} → Next s q p e → Inside s p e
next_inside (next_seq_first i n) = above (next_inside n) (seq_first i)
next_inside (next_seq_second i n) = above (next_inside n) (seq_second i)
next_inside (next_seq_across i c o) = above (opens_inside o) (seq_second i)
next_inside (next_alt_first i n) = above (next_inside n) (alt_first i)
next_inside (next_alt_second i n) = above (next_inside n) (alt_second i)
next_inside (next_many i n) = above (next_inside n) (many_part i)
next_inside (next_many_across i c o) = above (opens_inside o) (many_part i)
next_inside (next_def i n) = above (next_inside n) (def_part i)
