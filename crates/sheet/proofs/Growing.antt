-- Shapes and tables of an expression, from those of its parts.
use Rattle.std.proofs.Common.{◌≡◌, ℕ, zero, suc, ◌/◌, ◌^◌, ◌<◌, Bool, true, false, cond, ◌&&◌, ◌||◌, T, ◌⊎◌, ◌↔◌, List, length, get_or, take, ap, ◌∙◌, subst, inl, inr, pow-suc, arith, pow_pos}
use mathlib.Core.Logic.Iff
use mathlib.Core.Option.{Option, some}
use lib.Bits.{bit_or}
use Rattle.rows.specs.Sheet.{Sheet, at, Leaf, leaf_text, leaf_named, leaf_any, places, seq_first, seq_second, alt_first, alt_second, many_part, def_part}
use Rattle.rows.specs.declared.row.Row.{Row}
use Rattle.rows.specs.declared.row.Row.TheVariants.{Empty as empty, Text as one_text, Named as named, Any as any, Seq as seq, Alt as alt, Many as many, Def as def}
use Rattle.sheet.specs.Standing.{Bit, SetOf}
use Rattle.rows.specs.Steps.{Nullable, Opens, Closes, Next, WellFormed}
use Rattle.rows.specs.Parts.{KeptBelow}
use Rattle.sheet.specs.Shapes.{Shape, Shaped, Grown}
use Rattle.sheet.proofs.Bits.{no_bit, same_bits}
use Rattle.std.proofs.lemmas.Nat.Bits.{bit_at-suc}
use Rattle.rows.proofs.Numbers.{numbered_leaf, at_get_or}
use Rattle.sheet.proofs.PlaceSets.{set_none, set_one, set_same, set_or}
use Rattle.sheet.proofs.Compute.{and_iff, or_iff}
use Rattle.sheet.proofs.Rows.{OpensRow, opens_row, opens_from, ClosesRow, closes_row, closes_from, NullableRow, nullable_row, nullable_from, NextRow, next_row, next_from}

-- A number whose bits are all below k is below 2 ^ k.
pub bits_bound : (n k m : ℕ) → m < 2 ^ n → ((i : ℕ) → Bit i m → i < k) → m < 2 ^ k
bits_bound zero k m h f = let p = pow_pos k in omega arith
bits_bound (suc n) zero m h f =
    let z : m ≡ 0 = same_bits (suc n) m 0 h (pow_pos (suc n)) (λ i l. (λ b. let c = f i b in absurd (omega arith), λ b. absurd (no_bit i b))) in
    omega arith
bits_bound (suc n) (suc k) m h f =
    let r = bits_bound n k (m / 2) (omega (arith, pow-suc 2 n))
    (λ i b. let c = f (suc i) (bit_at-suc m i ∙ b) in omega arith) in
    omega (arith, pow-suc 2 k)

-- Tables that grow.
pub grown_none : {s : Sheet} (t : List ℕ) {R : ℕ → ℕ → Type 0} → ((q p : ℕ) → R q p → ⊥) → Grown s t t R
grown_none t f =
    record { bits = λ i j q p n m. (λ b. inl b, λ x. elim x [ inl b ↦ b | inr r ↦ absurd (f q p r) ]); bound = λ h. h }

pub grown_then : {s : Sheet} {t u v : List ℕ} {R S : ℕ → ℕ → Type 0} → Grown s t u R → Grown s u v S → Grown s t v (λ q p. R q p ⊎ S q p)
grown_then x y =
    record {
      bits = λ i j q p n m. (
        λ b. elim ((y.bits i j q p n m).0 b) [
          | inl c ↦ elim ((x.bits i j q p n m).0 c) [ inl d ↦ inl d | inr r ↦ inr (inl r) ]
          | inr r ↦ inr (inr r)
        ],
        λ b. elim b [
          | inl c ↦ (y.bits i j q p n m).1 (inl ((x.bits i j q p n m).1 (inl c)))
          | inr c ↦ elim c [ inl r ↦ (y.bits i j q p n m).1 (inl ((x.bits i j q p n m).1 (inr r))) | inr r ↦ (y.bits i j q p n m).1 (inr r) ]
        ],
      );
      bound = λ h. y.bound (x.bound h);
    }

pub grown_same : {s : Sheet} {t u : List ℕ} {R S : ℕ → ℕ → Type 0} → ((q p : ℕ) → R q p ↔ S q p) → Grown s t u R → Grown s t u S
grown_same f x =
    record {
      bits = λ i j q p n m. (
        λ b. elim ((x.bits i j q p n m).0 b) [ inl c ↦ inl c | inr r ↦ inr ((f q p).0 r) ],
        λ b. (x.bits i j q p n m).1 (elim b [ inl c ↦ inl c | inr r ↦ inr ((f q p).1 r) ]),
      );
      bound = x.bound;
    }

pub grown_link : {s : Sheet} {from to : ℕ} {P Q : ℕ → Type 0} (t u : List ℕ) → SetOf s from P → SetOf s to Q
    → KeptBelow from t u
    → ((i j : ℕ) → Bit i (get_or u j 0) ↔ (Bit i (get_or t j 0) ⊎ (Bit j to × Bit i from)))
    → Grown s t u (λ q p. P q × Q p)
grown_link {s} {from} {to} t u x y w f =
    record {
      bits = λ i j q p n m. (
        λ b. elim ((f i j).0 b) [ inl c ↦ inl c | inr c ↦ inr ((x.bits i q n).0 c.1, (y.bits j p m).0 c.0) ],
        λ b. (f i j).1 (elim b [ inl c ↦ inl c | inr r ↦ inr ((y.bits j p m).1 r.1, (x.bits i q n).1 r.0) ]),
      );
      bound = w (places s) x.no_more;
    }

-- A relation by the row of its expression.
nullable_iff : {s : Sheet} (e : ℕ) (r : Row) → at s e ≡ some r → NullableRow s e (some r) ↔ Nullable s e
nullable_iff {s} e r i = (nullable_from e (some r) i, λ x. subst (λ (o : Option Row). NullableRow s e o) i (nullable_row x))

opens_iff : {s : Sheet} (e : ℕ) (r : Row) → at s e ≡ some r → (p : ℕ) → OpensRow s p e (some r) ↔ Opens s p e
opens_iff {s} e r i p = (opens_from e (some r) i, λ x. subst (λ (o : Option Row). OpensRow s p e o) i (opens_row x))

closes_iff : {s : Sheet} (e : ℕ) (r : Row) → at s e ≡ some r → (p : ℕ) → ClosesRow s p e (some r) ↔ Closes s p e
closes_iff {s} e r i p = (closes_from e (some r) i, λ x. subst (λ (o : Option Row). ClosesRow s p e o) i (closes_row x))

next_iff : {s : Sheet} (e : ℕ) (r : Row) → at s e ≡ some r → (q p : ℕ) → NextRow s q p e (some r) ↔ Next s q p e
next_iff {s} e r i q p = (next_from e (some r) i, λ x. subst (λ (o : Option Row). NextRow s q p e o) i (next_row x))

-- Shapes, row by row.
pub shape_row : {s : Sheet} (e : ℕ) (r : Row) (x : Shape) → at s e ≡ some r
    → T x.empty ↔ NullableRow s e (some r) → SetOf s x.opening (λ p. OpensRow s p e (some r))
    → SetOf s x.closing (λ q. ClosesRow s q e (some r)) → Shaped s e x
shape_row e r x i n o c =
    record {
      empty = Iff.trans n (nullable_iff e r i);
      opening = set_same (opens_iff e r i) o;
      closing = set_same (closes_iff e r i) c;
    }

pub grown_row : {s : Sheet} {t u : List ℕ} (e : ℕ) (r : Row) → at s e ≡ some r
    → Grown s t u (λ q p. NextRow s q p e (some r)) → Grown s t u (λ q p. Next s q p e)
grown_row e r i g = grown_same (next_iff e r i) g

pub shape_empty : {s : Sheet} (e : ℕ) → at s e ≡ some empty → Shaped s e (record { empty = true; opening = 0; closing = 0 })
shape_empty {s} e i = shape_row e empty _ i Iff.rfl (set_none (λ p x. x)) (set_none (λ p x. x))

abbrev pub LeafRow : ℕ → Row → Type 0
LeafRow e empty = ⊥
LeafRow e one_text = Unit {0}
LeafRow e (named l d) = Unit {0}
LeafRow e (any d) = Unit {0}
LeafRow e (seq a b) = ⊥
LeafRow e (alt a b) = ⊥
LeafRow e (many a) = ⊥
LeafRow e (def a) = ⊥

pub leaf_is : (s : Sheet) (e : ℕ) (r : Row) → at s e ≡ some r → LeafRow e r → Leaf s e
leaf_is s e empty i h = elim h [ ]
leaf_is s e one_text i h = leaf_text i
leaf_is s e (named l d) i h = leaf_named i
leaf_is s e (any d) i h = leaf_any i
leaf_is s e (seq a b) i h = elim h [ ]
leaf_is s e (alt a b) i h = elim h [ ]
leaf_is s e (many a) i h = elim h [ ]
leaf_is s e (def a) i h = elim h [ ]

pub shape_leaf : (s : Sheet) (e m : ℕ) (r : Row) → at s e ≡ some r → LeafRow e r → m ≡ 2 ^ places (take e s)
    → Shaped s e (record { empty = false; opening = m; closing = m })
shape_leaf s e m r i h q = go r i h
  where
    go : (r : Row) → at s e ≡ some r → LeafRow e r → Shaped s e (record { empty = false; opening = m; closing = m })
    go empty i h = elim h [ ]
    go one_text i h =
        let x : SetOf s m (λ (p : ℕ). p ≡ e) = rw q (set_one (numbered_leaf (leaf_is s e one_text i h))) in shape_row e one_text _ i Iff.rfl x x
    go (named l d) i h =
        let x : SetOf s m (λ (p : ℕ). p ≡ e) = rw q (set_one (numbered_leaf (leaf_is s e (named l d) i h))) in shape_row e (named l d) _ i Iff.rfl x x
    go (any d) i h =
        let x : SetOf s m (λ (p : ℕ). p ≡ e) = rw q (set_one (numbered_leaf (leaf_is s e (any d) i h))) in shape_row e (any d) _ i Iff.rfl x x
    go (seq a b) i h = elim h [ ]
    go (alt a b) i h = elim h [ ]
    go (many a) i h = elim h [ ]
    go (def a) i h = elim h [ ]

pub grown_leaf : (s : Sheet) (t : List ℕ) (e : ℕ) (r : Row) → at s e ≡ some r → LeafRow e r → Grown s t t (λ q p. Next s q p e)
grown_leaf s t e empty i h = elim h [ ]
grown_leaf s t e one_text i h = grown_row e one_text i (grown_none t (λ q p x. x))
grown_leaf s t e (named l d) i h = grown_row e (named l d) i (grown_none t (λ q p x. x))
grown_leaf s t e (any d) i h = grown_row e (any d) i (grown_none t (λ q p x. x))
grown_leaf s t e (seq a b) i h = elim h [ ]
grown_leaf s t e (alt a b) i h = elim h [ ]
grown_leaf s t e (many a) i h = elim h [ ]
grown_leaf s t e (def a) i h = elim h [ ]

-- One part before another: the second opens too where the first may be empty.
module _ {s : Sheet} {A B : ℕ → Type 0} {N : Type 0} {m n : ℕ} (x : SetOf s m A) (y : SetOf s n B) where
  pub open_first : (b : Bool) → T b ↔ N → SetOf s (cond b (bit_or m n) m) (λ p. A p ⊎ (N × B p))
  open_first true t =
      set_same (λ e. (λ z. elim z [ inl u ↦ inl u | inr u ↦ inr (t.0 tt, u) ], λ z. elim z [ inl u ↦ inl u | inr u ↦ inr u.1 ])) (set_or x y)
  open_first false t = set_same (λ e. (λ z. inl z, λ z. elim z [ inl u ↦ u | inr u ↦ absurd (t.1 u.0) ])) x

  pub close_second : (b : Bool) → T b ↔ N → SetOf s (cond b (bit_or m n) n) (λ p. (A p × N) ⊎ B p)
  close_second true t =
      set_same (λ e. (λ z. elim z [ inl u ↦ inl (u, t.0 tt) | inr u ↦ inr u ], λ z. elim z [ inl u ↦ inl u.0 | inr u ↦ inr u ])) (set_or x y)
  close_second false t = set_same (λ e. (λ z. inr z, λ z. elim z [ inl u ↦ absurd (t.1 u.1) | inr u ↦ u ])) y

pub shape_seq : {s : Sheet} {a b : ℕ} (e : ℕ) (x y r : Shape) → at s e ≡ some (seq a b) → Shaped s a x → Shaped s b y
    → r.empty ≡ (x.empty && y.empty)
    → r.opening ≡ cond x.empty (bit_or x.opening y.opening) x.opening
    → r.closing ≡ cond y.empty (bit_or x.closing y.closing) y.closing → Shaped s e r
shape_seq {s} {a} {b} e x y r i u v p q w =
    shape_row e (seq a b) r i
    (rw p (and_iff x.empty y.empty u.empty v.empty))
    (rw q (open_first u.opening v.opening x.empty u.empty))
    (rw w (close_second u.closing v.closing y.empty v.empty))

pub grown_seq : {s : Sheet} {a b : ℕ} {t₀ t₁ t₂ : List ℕ} (t₃ : List ℕ) (e : ℕ) (x y : Shape) → at s e ≡ some (seq a b) → Shaped s a x → Shaped s b y
    → Grown s t₀ t₁ (λ q p. Next s q p a) → Grown s t₁ t₂ (λ q p. Next s q p b)
    → KeptBelow x.closing t₂ t₃
    → ((i j : ℕ) → Bit i (get_or t₃ j 0) ↔ (Bit i (get_or t₂ j 0) ⊎ (Bit j y.opening × Bit i x.closing)))
    → Grown s t₀ t₃ (λ q p. Next s q p e)
grown_seq {s} {a} {b} {t₀} {t₁} {t₂} t₃ e x y i u v g h w f =
    grown_row e (seq a b) i (grown_then g (grown_then h (grown_link t₂ t₃ u.closing v.opening w f)))

pub shape_alt : {s : Sheet} {a b : ℕ} (e : ℕ) (x y r : Shape) → at s e ≡ some (alt a b) → Shaped s a x → Shaped s b y
    → r.empty ≡ (x.empty || y.empty) → r.opening ≡ bit_or x.opening y.opening
    → r.closing ≡ bit_or x.closing y.closing → Shaped s e r
shape_alt {s} {a} {b} e x y r i u v p q w =
    shape_row e (alt a b) r i (rw p (or_iff x.empty y.empty u.empty v.empty))
    (rw q (set_or u.opening v.opening)) (rw w (set_or u.closing v.closing))

pub grown_alt : {s : Sheet} {a b : ℕ} {t₀ t₁ t₂ : List ℕ} (e : ℕ) → at s e ≡ some (alt a b)
    → Grown s t₀ t₁ (λ q p. Next s q p a) → Grown s t₁ t₂ (λ q p. Next s q p b) → Grown s t₀ t₂ (λ q p. Next s q p e)
grown_alt {s} {a} {b} e i g h = grown_row e (alt a b) i (grown_then g h)

pub shape_many : {s : Sheet} {a : ℕ} (e : ℕ) (x : Shape) → at s e ≡ some (many a) → Shaped s a x
    → Shaped s e (record { empty = true; opening = x.opening; closing = x.closing })
shape_many {s} {a} e x i u = shape_row e (many a) _ i Iff.rfl u.opening u.closing

pub grown_many : {s : Sheet} {a : ℕ} {t₀ t₁ : List ℕ} (t₂ : List ℕ) (e : ℕ) (x : Shape) → at s e ≡ some (many a) → Shaped s a x
    → Grown s t₀ t₁ (λ q p. Next s q p a)
    → KeptBelow x.closing t₁ t₂
    → ((i j : ℕ) → Bit i (get_or t₂ j 0) ↔ (Bit i (get_or t₁ j 0) ⊎ (Bit j x.opening × Bit i x.closing)))
    → Grown s t₀ t₂ (λ q p. Next s q p e)
grown_many {s} {a} {t₀} {t₁} t₂ e x i u g w f = grown_row e (many a) i (grown_then g (grown_link t₁ t₂ u.closing u.opening w f))

pub shape_def : {s : Sheet} {a : ℕ} (e : ℕ) (x : Shape) → at s e ≡ some (def a) → Shaped s a x → Shaped s e x
shape_def {s} {a} e x i u = shape_row e (def a) x i u.empty u.opening u.closing

pub grown_def : {s : Sheet} {a : ℕ} {t₀ t₁ : List ℕ} (e : ℕ) → at s e ≡ some (def a)
    → Grown s t₀ t₁ (λ q p. Next s q p a) → Grown s t₀ t₁ (λ q p. Next s q p e)
grown_def {s} {a} e i g = grown_row e (def a) i g

-- The parts of a row stand below it.
pub seq_below : {s : Sheet} {e a b : ℕ} → WellFormed s → e < length s → get_or s e empty ≡ seq a b → (a < e) × (b < e)
seq_below {s} {e} w h q = let i = at_get_or s e empty h ∙ ap some q in (w.lower (seq_first i), w.lower (seq_second i))

pub alt_below : {s : Sheet} {e a b : ℕ} → WellFormed s → e < length s → get_or s e empty ≡ alt a b → (a < e) × (b < e)
alt_below {s} {e} w h q = let i = at_get_or s e empty h ∙ ap some q in (w.lower (alt_first i), w.lower (alt_second i))

pub many_below : {s : Sheet} {e a : ℕ} → WellFormed s → e < length s → get_or s e empty ≡ many a → a < e
many_below {s} {e} w h q = w.lower (many_part (at_get_or s e empty h ∙ ap some q))

pub def_below : {s : Sheet} {e a : ℕ} → WellFormed s → e < length s → get_or s e empty ≡ def a → a < e
def_below {s} {e} w h q = w.lower (def_part (at_get_or s e empty h ∙ ap some q))
