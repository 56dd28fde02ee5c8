use Rattle.std.proofs.Common.{◌≡◌, ℕ, ◌⊎◌, refl, inl, inr}
use mathlib.Core.Option.{Option, none, some}
use Rattle.forest.specs.Forest.{Forest, nil, join}
use Rattle.rows.specs.Sheet.{Sheet, at}
use Rattle.rows.specs.declared.row.Row.{Row}
use Rattle.rows.specs.declared.row.Row.TheVariants.{Empty as empty, Text as one_text, Named as named, Any as any, Seq as seq, Alt as alt, Many as many, Def as def}
use Rattle.sheet.specs.Meaning.{Admits}
use Rattle.rows.specs.Sheet.{leaf_text, leaf_named, leaf_any}
use Rattle.sheet.specs.Meaning.{Follows, itself, in_seq_first, in_seq_second, in_alt_first, in_alt_second, in_many, in_def}
use Rattle.rows.specs.Steps.{Nullable, nul_empty, nul_seq, nul_alt_first, nul_alt_second, nul_many, nul_def}
use Rattle.rows.specs.Steps.{Opens, opens_itself, opens_seq_first, opens_seq_second, opens_alt_first, opens_alt_second, opens_many, opens_def}
use Rattle.rows.specs.Steps.{Closes, closes_itself, closes_seq_first, closes_seq_second, closes_alt_first, closes_alt_second, closes_many, closes_def}
use Rattle.rows.specs.Steps.{Next, next_seq_first, next_seq_second, next_seq_across, next_alt_first, next_alt_second, next_many, next_many_across, next_def}

-- What a relation says of a row, by the row's kind: each relation is turned round here, once.
abbrev pub OpensRow : Sheet → ℕ → ℕ → Option Row → Type 0
OpensRow s p e none = ⊥
OpensRow s p e (some empty) = ⊥
OpensRow s p e (some one_text) = p ≡ e
OpensRow s p e (some (named l d)) = p ≡ e
OpensRow s p e (some (any d)) = p ≡ e
OpensRow s p e (some (seq a b)) = Opens s p a ⊎ (Nullable s a × Opens s p b)
OpensRow s p e (some (alt a b)) = Opens s p a ⊎ Opens s p b
OpensRow s p e (some (many a)) = Opens s p a
OpensRow s p e (some (def a)) = Opens s p a

pub opens_row : {s : Sheet} {p e : ℕ} → Opens s p e → OpensRow s p e (at s e)
opens_row (opens_itself (leaf_text i)) = rw i refl
opens_row (opens_itself (leaf_named i)) = rw i refl
opens_row (opens_itself (leaf_any i)) = rw i refl
opens_row (opens_seq_first i o) = rw i (inl o)
opens_row (opens_seq_second i n o) = rw i (inr (n, o))
opens_row (opens_alt_first i o) = rw i (inl o)
opens_row (opens_alt_second i o) = rw i (inr o)
opens_row (opens_many i o) = rw i o
opens_row (opens_def i o) = rw i o

abbrev pub FollowsRow : Sheet → ℕ → ℕ → Forest → Option Row → Type 0
FollowsRow s p e h none = ⊥
FollowsRow s p e h (some empty) = ⊥
FollowsRow s p e h (some one_text) = (p ≡ e) × (h ≡ nil)
FollowsRow s p e h (some (named l d)) = (p ≡ e) × (h ≡ nil)
FollowsRow s p e h (some (any d)) = (p ≡ e) × (h ≡ nil)
FollowsRow s p e h (some (seq a b)) =
    ((f : Forest) × (g : Forest) × Follows s p a f × Admits s b g × (h ≡ join f g)) ⊎ Follows s p b h
FollowsRow s p e h (some (alt a b)) = Follows s p a h ⊎ Follows s p b h
FollowsRow s p e h (some (many a)) = (f : Forest) × (g : Forest) × Follows s p a f × Admits s e g × (h ≡ join f g)
FollowsRow s p e h (some (def a)) = Follows s p a h

pub follows_row : {s : Sheet} {p e : ℕ} {h : Forest} → Follows s p e h → FollowsRow s p e h (at s e)
follows_row (itself (leaf_text i)) = rw i (refl, refl)
follows_row (itself (leaf_named i)) = rw i (refl, refl)
follows_row (itself (leaf_any i)) = rw i (refl, refl)
follows_row (in_seq_first {f = f} {g = g} i x y) = rw i (inl (f, g, x, y, refl))
follows_row (in_seq_second i x) = rw i (inr x)
follows_row (in_alt_first i x) = rw i (inl x)
follows_row (in_alt_second i x) = rw i (inr x)
follows_row (in_many {f = f} {g = g} i x y) = rw i (f, g, x, y, refl)
follows_row (in_def i x) = rw i x

pub opens_from : {s : Sheet} {p : ℕ} (e : ℕ) (o : Option Row) → at s e ≡ o → OpensRow s p e o → Opens s p e
opens_from e none i x = elim x [ ]
opens_from e (some empty) i x = elim x [ ]
opens_from e (some one_text) i x = rw x (opens_itself (leaf_text i))
opens_from e (some (named l d)) i x = rw x (opens_itself (leaf_named i))
opens_from e (some (any d)) i x = rw x (opens_itself (leaf_any i))
opens_from e (some (seq a b)) i (inl x) = opens_seq_first i x
opens_from e (some (seq a b)) i (inr x) = opens_seq_second i x.0 x.1
opens_from e (some (alt a b)) i (inl x) = opens_alt_first i x
opens_from e (some (alt a b)) i (inr x) = opens_alt_second i x
opens_from e (some (many a)) i x = opens_many i x
opens_from e (some (def a)) i x = opens_def i x

abbrev pub NullableRow : Sheet → ℕ → Option Row → Type 0
NullableRow s e none = ⊥
NullableRow s e (some empty) = Unit {0}
NullableRow s e (some one_text) = ⊥
NullableRow s e (some (named l d)) = ⊥
NullableRow s e (some (any d)) = ⊥
NullableRow s e (some (seq a b)) = Nullable s a × Nullable s b
NullableRow s e (some (alt a b)) = Nullable s a ⊎ Nullable s b
NullableRow s e (some (many a)) = Unit {0}
NullableRow s e (some (def a)) = Nullable s a

pub nullable_row : {s : Sheet} {e : ℕ} → Nullable s e → NullableRow s e (at s e)
nullable_row (nul_empty i) = rw i tt
nullable_row (nul_seq i x y) = rw i (x, y)
nullable_row (nul_alt_first i x) = rw i (inl x)
nullable_row (nul_alt_second i x) = rw i (inr x)
nullable_row (nul_many i) = rw i tt
nullable_row (nul_def i x) = rw i x

pub nullable_from : {s : Sheet} (e : ℕ) (o : Option Row) → at s e ≡ o → NullableRow s e o → Nullable s e
nullable_from e none i x = elim x [ ]
nullable_from e (some empty) i x = nul_empty i
nullable_from e (some one_text) i x = elim x [ ]
nullable_from e (some (named l d)) i x = elim x [ ]
nullable_from e (some (any d)) i x = elim x [ ]
nullable_from e (some (seq a b)) i x = nul_seq i x.0 x.1
nullable_from e (some (alt a b)) i (inl x) = nul_alt_first i x
nullable_from e (some (alt a b)) i (inr x) = nul_alt_second i x
nullable_from e (some (many a)) i x = nul_many i
nullable_from e (some (def a)) i x = nul_def i x

abbrev pub ClosesRow : Sheet → ℕ → ℕ → Option Row → Type 0
ClosesRow s q e none = ⊥
ClosesRow s q e (some empty) = ⊥
ClosesRow s q e (some one_text) = q ≡ e
ClosesRow s q e (some (named l d)) = q ≡ e
ClosesRow s q e (some (any d)) = q ≡ e
ClosesRow s q e (some (seq a b)) = (Closes s q a × Nullable s b) ⊎ Closes s q b
ClosesRow s q e (some (alt a b)) = Closes s q a ⊎ Closes s q b
ClosesRow s q e (some (many a)) = Closes s q a
ClosesRow s q e (some (def a)) = Closes s q a

pub closes_row : {s : Sheet} {q e : ℕ} → Closes s q e → ClosesRow s q e (at s e)
closes_row (closes_itself (leaf_text i)) = rw i refl
closes_row (closes_itself (leaf_named i)) = rw i refl
closes_row (closes_itself (leaf_any i)) = rw i refl
closes_row (closes_seq_first i o n) = rw i (inl (o, n))
closes_row (closes_seq_second i o) = rw i (inr o)
closes_row (closes_alt_first i o) = rw i (inl o)
closes_row (closes_alt_second i o) = rw i (inr o)
closes_row (closes_many i o) = rw i o
closes_row (closes_def i o) = rw i o

pub closes_from : {s : Sheet} {q : ℕ} (e : ℕ) (o : Option Row) → at s e ≡ o → ClosesRow s q e o → Closes s q e
closes_from e none i x = elim x [ ]
closes_from e (some empty) i x = elim x [ ]
closes_from e (some one_text) i x = rw x (closes_itself (leaf_text i))
closes_from e (some (named l d)) i x = rw x (closes_itself (leaf_named i))
closes_from e (some (any d)) i x = rw x (closes_itself (leaf_any i))
closes_from e (some (seq a b)) i (inl x) = closes_seq_first i x.0 x.1
closes_from e (some (seq a b)) i (inr x) = closes_seq_second i x
closes_from e (some (alt a b)) i (inl x) = closes_alt_first i x
closes_from e (some (alt a b)) i (inr x) = closes_alt_second i x
closes_from e (some (many a)) i x = closes_many i x
closes_from e (some (def a)) i x = closes_def i x

abbrev pub NextRow : Sheet → ℕ → ℕ → ℕ → Option Row → Type 0
NextRow s q p e none = ⊥
NextRow s q p e (some empty) = ⊥
NextRow s q p e (some one_text) = ⊥
NextRow s q p e (some (named l d)) = ⊥
NextRow s q p e (some (any d)) = ⊥
NextRow s q p e (some (seq a b)) = Next s q p a ⊎ (Next s q p b ⊎ (Closes s q a × Opens s p b))
NextRow s q p e (some (alt a b)) = Next s q p a ⊎ Next s q p b
NextRow s q p e (some (many a)) = Next s q p a ⊎ (Closes s q a × Opens s p a)
NextRow s q p e (some (def a)) = Next s q p a

pub next_row : {s : Sheet} {q p e : ℕ} → Next s q p e → NextRow s q p e (at s e)
next_row (next_seq_first i n) = rw i (inl n)
next_row (next_seq_second i n) = rw i (inr (inl n))
next_row (next_seq_across i c o) = rw i (inr (inr (c, o)))
next_row (next_alt_first i n) = rw i (inl n)
next_row (next_alt_second i n) = rw i (inr n)
next_row (next_many i n) = rw i (inl n)
next_row (next_many_across i c o) = rw i (inr (c, o))
next_row (next_def i n) = rw i n

pub next_from : {s : Sheet} {q p : ℕ} (e : ℕ) (o : Option Row) → at s e ≡ o → NextRow s q p e o → Next s q p e
next_from e none i x = elim x [ ]
next_from e (some empty) i x = elim x [ ]
next_from e (some one_text) i x = elim x [ ]
next_from e (some (named l d)) i x = elim x [ ]
next_from e (some (any d)) i x = elim x [ ]
next_from e (some (seq a b)) i (inl n) = next_seq_first i n
next_from e (some (seq a b)) i (inr (inl n)) = next_seq_second i n
next_from e (some (seq a b)) i (inr (inr x)) = next_seq_across i x.0 x.1
next_from e (some (alt a b)) i (inl n) = next_alt_first i n
next_from e (some (alt a b)) i (inr n) = next_alt_second i n
next_from e (some (many a)) i (inl n) = next_many i n
next_from e (some (many a)) i (inr x) = next_many_across i x.0 x.1
next_from e (some (def a)) i n = next_def i n
