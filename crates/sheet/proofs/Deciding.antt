-- What the tables hold can be decided, so a truncated fact about them gives the fact itself.
use Rattle.std.proofs.Common.{◌≡◌, ℕ, zero, suc, ◌+◌, Bool, true, false, T, ◌⊎◌, ◌↔◌, List, length, get_or, take, sym, refl, ap, subst, inl, inr, add-one}
use mathlib.Core.Logic.{∥∥₁_map, ∥∥₁_elim}
use mathlib.Core.Option.{Option, none, some}
use native.Mathlib.Decide.{ℕ_discrete}
use Rattle.rows.specs.Sheet.{Sheet, at, definitions, Defines, Names, by_named, by_any, Sound, Side, first, second}
use Rattle.rows.specs.declared.row.Row.{Row}
use Rattle.rows.specs.declared.row.Row.TheVariants.{Empty as empty, Text as one_text, Named as named, Any as any, Seq as seq, Alt as alt, Many as many, Def as def}
use Rattle.sheet.specs.Standing.{SetOf}
use Rattle.rows.specs.Steps.{WellFormed}
use Rattle.sheet.specs.Shapes.{LeadsAt, EndsAt, LeadsBelow, EndsBelow, Holds}
use Rattle.sheet.specs.Compiled.{Tables, Tabled, TextAt, NamedAt, AnyAt, Compiled}
use Rattle.sheet.proofs.Tests.{nullable, opening, closing, following}
use Rattle.sheet.proofs.Compute.{is_nullable, is_opening, is_closing, is_following}
use Rattle.sheet.proofs.Bits.{bit_or_not}
use Rattle.rows.proofs.Checks.{names_row}
use native.Mathlib.Bridge.{le_prop}
use Rattle.sheet.proofs.Tabling.{Through, through_more, through_stay, through_none}

abbrev pub Either : Type 0 → Type 0
Either A = A ⊎ (A → ⊥)

pub by_test : {A : Type 0} (b : Bool) → T b ↔ A → Either A
by_test true f = inl (f.0 tt)
by_test false f = inr (λ a. f.1 a)

pub by_iff : {A B : Type 0} → A ↔ B → Either A → Either B
by_iff f (inl a) = inl (f.0 a)
by_iff f (inr n) = inr (λ b. n (f.1 b))

pub one_or : {A B : Type 0} → Either A → Either B → Either (A ⊎ B)
one_or (inl a) y = inl (inl a)
one_or (inr n) (inl b) = inl (inr b)
one_or (inr n) (inr m) = inr (λ z. elim z [ inl a ↦ n a | inr b ↦ m b ])

pub both_or : {A B : Type 0} → Either A → Either B → Either (A × B)
both_or (inl a) (inl b) = inl (a, b)
both_or (inl a) (inr m) = inr (λ z. m z.1)
both_or (inr n) y = inr (λ z. n z.0)

pub number_or : (m n : ℕ) → Either (m ≡ n)
number_or m n = elim (ℕ_discrete m n) [ yes q ↦ inl q | no q ↦ inr q ]

-- Out of a truncation, where it can be decided.
pub told : {A : Type 0} → Either A → ∥ A ∥₁ → A
told (inl a) t = a
told (inr n) t = absurd (∥∥₁_elim t (λ x y. absurd x) n)

pub told_iff : {A B : Type 0} → Either A → Either B → ∥ A ↔ B ∥₁ → A ↔ B
told_iff x y t = (λ a. told y (∥∥₁_map t (λ f. f.0 a)), λ b. told x (∥∥₁_map t (λ f. f.1 b)))

module _ (s : Sheet) (w : WellFormed s) where
  ends_at_or : (e x q : ℕ) → Either (EndsAt s e x q)
  ends_at_or e x q =
      one_or (both_or (number_or q e) (by_test (nullable s x) (is_nullable s w x))) (by_test (closing s q x) (is_closing s w q x))

  leads_at_or : (e x q p : ℕ) → Either (LeadsAt s e x q p)
  leads_at_or e x q p =
      one_or (both_or (number_or q e) (by_test (opening s p x) (is_opening s w p x))) (by_test (following s q p x) (is_following s w q p x))

  through_or : (D : ℕ → ℕ → Type 0) → ((e x : ℕ) → Either (D e x)) → (k : ℕ) → Either (Through s D k)
  through_or D f zero = inr (through_none s D)
  through_or D f (suc k) = go (through_or D f k) (at s k) refl
    where
      one : (n : ℕ) → Through s D (n + 1) ↔ Through s D (suc n)
      one n = let q = ap (Through s D) (add-one n) in (λ z. subst (λ (m : ℕ). Through s D m) (add-one n) z, λ z. subst (λ (m : ℕ). Through s D m) (sym (add-one n)) z)

      other : Either (Through s D k) → ((x : ℕ) → at s k ≡ some (def x) → ⊥) → Either (Through s D (suc k))
      other h n = by_iff (one k) (by_iff (through_stay s D k n) h)

      go : Either (Through s D k) → (o : Option Row) → at s k ≡ o → Either (Through s D (suc k))
      go h none i = other h (λ x j. cc)
      go h (some empty) i = other h (λ x j. cc)
      go h (some one_text) i = other h (λ x j. cc)
      go h (some (named l d)) i = other h (λ x j. cc)
      go h (some (any d)) i = other h (λ x j. cc)
      go h (some (seq a b)) i = other h (λ x j. cc)
      go h (some (alt a b)) i = other h (λ x j. cc)
      go h (some (many a)) i = other h (λ x j. cc)
      go h (some (def a)) i = by_iff (one k) (by_iff (through_more s D k a i) (one_or h (f k a)))

  pub ends_or : (k q : ℕ) → Either (EndsBelow s k q)
  ends_or k q = through_or (λ e x. EndsAt s e x q) (λ e x. ends_at_or e x q) k

  pub leads_or : (k q p : ℕ) → Either (LeadsBelow s k q p)
  leads_or k q p = through_or (λ e x. LeadsAt s e x q p) (λ e x. leads_at_or e x q p) k

-- Whether row p is a leaf of each kind.
leaf_or : (s : Sheet) (p : ℕ) (o : Option Row) → at s p ≡ o → Either (TextAt s p) × (Either (NamedAt s p) × Either (AnyAt s p))
leaf_or s p none i = (inr (λ z. cc), (inr (λ z. let q = z.2 in cc), inr (λ z. let q = z.1 in cc)))
leaf_or s p (some empty) i = (inr (λ z. cc), (inr (λ z. let q = z.2 in cc), inr (λ z. let q = z.1 in cc)))
leaf_or s p (some one_text) i = (inl i, (inr (λ z. let q = z.2 in cc), inr (λ z. let q = z.1 in cc)))
leaf_or s p (some (named l d)) i = (inr (λ z. cc), (inl (l, d, i), inr (λ z. let q = z.1 in cc)))
leaf_or s p (some (any d)) i = (inr (λ z. cc), (inr (λ z. let q = z.2 in cc), inl (d, i)))
leaf_or s p (some (seq a b)) i = (inr (λ z. cc), (inr (λ z. let q = z.2 in cc), inr (λ z. let q = z.1 in cc)))
leaf_or s p (some (alt a b)) i = (inr (λ z. cc), (inr (λ z. let q = z.2 in cc), inr (λ z. let q = z.1 in cc)))
leaf_or s p (some (many a)) i = (inr (λ z. cc), (inr (λ z. let q = z.2 in cc), inr (λ z. let q = z.1 in cc)))
leaf_or s p (some (def a)) i = (inr (λ z. cc), (inr (λ z. let q = z.2 in cc), inr (λ z. let q = z.1 in cc)))

-- The definition at a row, if it is one of this number.
defines_or : (s : Sheet) (d e : ℕ) → Either ((x : ℕ) × Defines s d e x)
defines_or s d e = go (at s e) refl (number_or (definitions (take e s)) d)
  where
    go : (o : Option Row) → at s e ≡ o → Either (definitions (take e s) ≡ d) → Either ((x : ℕ) × Defines s d e x)
    go none i h = inr (λ z. let q = z.1.is in cc)
    go (some empty) i h = inr (λ z. let q = z.1.is in cc)
    go (some one_text) i h = inr (λ z. let q = z.1.is in cc)
    go (some (named l c)) i h = inr (λ z. let q = z.1.is in cc)
    go (some (any c)) i h = inr (λ z. let q = z.1.is in cc)
    go (some (seq a b)) i h = inr (λ z. let q = z.1.is in cc)
    go (some (alt a b)) i h = inr (λ z. let q = z.1.is in cc)
    go (some (many a)) i h = inr (λ z. let q = z.1.is in cc)
    go (some (def a)) i (inl q) = inl (a, record { is = i; number = q })
    go (some (def a)) i (inr n) = inr (λ z. n z.1.number)

holds_or : (s : Sheet) (p w : ℕ) → Either (Holds s p w)
holds_or s p w = go (at s p) refl
  where
    named_or : (d : ℕ) → Names s p d → ((c : ℕ) → Names s p c → c ≡ d) → Either (Holds s p w)
    named_or d n u =
        elim (defines_or s d w) [
          | inl z ↦ inl (d, z.0, n, z.1)
          | inr m ↦ inr (λ z. m (z.1, subst (λ (c : ℕ). Defines s c w z.1) (u z.0 z.2) z.3))
        ]

    go : (o : Option Row) → at s p ≡ o → Either (Holds s p w)
    go none i = inr (λ z. elim (rw i at (names_row z.2)) [ ])
    go (some empty) i = inr (λ z. elim (rw i at (names_row z.2)) [ ])
    go (some one_text) i = inr (λ z. elim (rw i at (names_row z.2)) [ ])
    go (some (named l d)) i = named_or d (by_named i) (λ c n. rw i at (names_row n))
    go (some (any d)) i = named_or d (by_any i) (λ c n. rw i at (names_row n))
    go (some (seq a b)) i = inr (λ z. elim (rw i at (names_row z.2)) [ ])
    go (some (alt a b)) i = inr (λ z. elim (rw i at (names_row z.2)) [ ])
    go (some (many a)) i = inr (λ z. elim (rw i at (names_row z.2)) [ ])
    go (some (def a)) i = inr (λ z. elim (rw i at (names_row z.2)) [ ])

told_set : {s : Sheet} {m : ℕ} {P : ℕ → Type 0} → ((e : ℕ) → Either (P e)) → ∥ SetOf s m P ∥₁ → SetOf s m P
told_set {s} {m} f t =
    record {
      bits = λ i e n. told_iff (bit_or_not i m) (f e) (∥∥₁_map t (λ x. x.bits i e n));
      no_more = ∥∥₁_elim t le_prop (λ x. x.no_more);
    }

told_table : {s : Sheet} {t : List ℕ} {R : ℕ → ℕ → Type 0} → ((q p : ℕ) → Either (R q p)) → ∥ Tabled s t R ∥₁ → Tabled s t R
told_table {s} {t} f u =
    record {
      bits = λ i j q p n m. told_iff (bit_or_not i (get_or t j 0)) (f q p) (∥∥₁_map u (λ x. x.bits i j q p n m));
      bound = λ j. ∥∥₁_elim u le_prop (λ x. x.bound j);
    }

side_or : (k k' : Side) → Either (k ≡ k')
side_or first first = inl refl
side_or first second = inr (λ q. cc)
side_or second first = inr (λ q. cc)
side_or second second = inl refl

pub formed : {s : Sheet} → ∥ Sound s ∥₁ → WellFormed s
formed t =
    record {
      lower = λ x. ∥∥₁_elim t le_prop (λ w. w.lower x);
      plain = λ x i. ∥∥₁_elim t (λ a b. absurd a) (λ w. w.plain x i);
      once = λ {e} {e'} {a} {k} {k'} x y. (told (number_or e e') (∥∥₁_map t (λ w. (w.once x y).0)), told (side_or k k') (∥∥₁_map t (λ w. (w.once x y).1)));
    }

-- The tables of a sheet, out of the truncation.
pub compiled : {s : Sheet} {t : Tables} → ∥ Sound s ∥₁ → ∥ Compiled s t ∥₁ → Compiled s t
compiled {s} {t} w c =
    record {
      ends = told_set (ends_or s (formed w) (length s)) (∥∥₁_map c (λ x. x.ends));
      before = told_table (leads_or s (formed w) (length s)) (∥∥₁_map c (λ x. x.before));
      texts = told_set (λ p. (leaf_or s p _ refl).0) (∥∥₁_map c (λ x. x.texts));
      named = told_set (λ p. (leaf_or s p _ refl).1.0) (∥∥₁_map c (λ x. x.named));
      anys = told_set (λ p. (leaf_or s p _ refl).1.1) (∥∥₁_map c (λ x. x.anys));
      labels = λ p l d h i. told (number_or _ _) (∥∥₁_map c (λ x. x.labels p l d h i));
      holders = told_table (holds_or s) (∥∥₁_map c (λ x. x.holders));
      top = told_set (defines_or s 0) (∥∥₁_map c (λ x. x.top));
    }
