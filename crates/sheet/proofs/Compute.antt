use Rattle.std.proofs.Common.{◌≡◌, ℕ, zero, suc, ◌<◌, Bool, true, false, ◌&&◌, ◌||◌, T, eqb, ◌⊎◌, ◌↔◌, refl, inl, inr, arith, eqb→eq}
use mathlib.Core.Option.{Option, none, some}
use Rattle.rows.specs.Sheet.{Sheet, at, Side, first, second}
use Rattle.rows.specs.declared.row.Row.{Row}
use Rattle.rows.specs.declared.row.Row.TheVariants.{Empty as empty, Text as one_text, Named as named, Any as any, Seq as seq, Alt as alt, Many as many, Def as def}
use Rattle.rows.specs.Sheet.{Part, seq_first, seq_second, alt_first, alt_second, many_part, def_part}
use Rattle.rows.specs.Steps.{WellFormed, Nullable}
use Rattle.rows.specs.Steps.{Opens}
use Rattle.rows.specs.Steps.{Closes}
use Rattle.rows.specs.Steps.{Next}
use mathlib.Core.Logic.Iff
use lib.Dec.{eqb_refl}
use Rattle.sheet.proofs.Tests.{Step, within, null_step, nullable, open_step, opening, close_step, closing, next_step, following}
use Rattle.sheet.proofs.Rows.{NullableRow, nullable_row, nullable_from, OpensRow, opens_row, opens_from}
use Rattle.sheet.proofs.Rows.{ClosesRow, closes_row, closes_from, NextRow, next_row, next_from}

both : (a b : Bool) → T (a && b) ↔ (T a × T b)
both true true = (λ x. (tt, tt), λ x. tt)
both true false = (λ x. elim x [ ], λ x. x.1)
both false b = (λ x. elim x [ ], λ x. x.0)

some_of : (a b : Bool) → T (a || b) ↔ (T a ⊎ T b)
some_of true b = (λ x. inl tt, λ x. tt)
some_of false true = (λ x. inr tt, λ x. tt)
some_of false false = (λ x. elim x [ ], λ x. elim x [ inl y ↦ y | inr y ↦ y ])

either : {A B C D : Type 0} → A ↔ C → B ↔ D → (A ⊎ B) ↔ (C ⊎ D)
either f g = (λ x. elim x [ inl y ↦ inl (f.0 y) | inr y ↦ inr (g.0 y) ], λ x. elim x [ inl y ↦ inl (f.1 y) | inr y ↦ inr (g.1 y) ])

pub and_iff : {C D : Type 0} (a b : Bool) → T a ↔ C → T b ↔ D → T (a && b) ↔ (C × D)
and_iff a b f g = Iff.trans (both a b) (Iff.and f g)

pub or_iff : {C D : Type 0} (a b : Bool) → T a ↔ C → T b ↔ D → T (a || b) ↔ (C ⊎ D)
or_iff a b f g = Iff.trans (some_of a b) (either f g)

same_number : (p e : ℕ) → T (eqb p e) ↔ (p ≡ e)
same_number p e = (eqb→eq p e, λ x. rw x (eqb_refl e))

never : ⊥ ↔ ⊥
never = Iff.rfl

-- A test by rows decides a relation that is told by rows.
pub tells : (s : Sheet) → WellFormed s → (step : Step) (Rel : ℕ → Type 0) (Rel-row : ℕ → Option Row → Type 0)
    → ((e : ℕ) → Rel e ↔ Rel-row e (at s e))
    → ((f : ℕ → Bool) (e : ℕ) (o : Option Row) → at s e ≡ o
    → ((a : ℕ) (k : Side) → Part s e k a → T (f a) ↔ Rel a) → T (step f e o) ↔ Rel-row e o)
    → (n e : ℕ) → e < n → T (within step s n e) ↔ Rel e
tells s w step Rel Rel-row rows here zero e h = absurd (omega arith)
tells s w step Rel Rel-row rows here (suc n) e h =
    Iff.trans
    (here (within step s n) e (at s e) refl
    (λ a k x. let y = w.lower x in tells s w step Rel Rel-row rows here n a (omega arith)))
    (Iff.symm (rows e))

pub is_nullable : (s : Sheet) → WellFormed s → (e : ℕ) → T (nullable s e) ↔ Nullable s e
unfolding nullable
is_nullable s w e =
    tells s w null_step (Nullable s) (NullableRow s) (λ e. (nullable_row, nullable_from e (at s e) refl)) here (suc e) e (omega arith)
  where
    here : (f : ℕ → Bool) (e : ℕ) (o : Option Row) → at s e ≡ o
        → ((a : ℕ) (k : Side) → Part s e k a → T (f a) ↔ Nullable s a) → T (null_step f e o) ↔ NullableRow s e o
    here f e none i ih = never
    here f e (some empty) i ih = Iff.rfl
    here f e (some one_text) i ih = never
    here f e (some (named l d)) i ih = never
    here f e (some (any d)) i ih = never
    here f e (some (seq a b)) i ih = and_iff (f a) (f b) (ih a first (seq_first i)) (ih b second (seq_second i))
    here f e (some (alt a b)) i ih = or_iff (f a) (f b) (ih a first (alt_first i)) (ih b second (alt_second i))
    here f e (some (many a)) i ih = Iff.rfl
    here f e (some (def a)) i ih = ih a first (def_part i)

pub is_opening : (s : Sheet) → WellFormed s → (p e : ℕ) → T (opening s p e) ↔ Opens s p e
unfolding opening
is_opening s w p e =
    tells s w (open_step (nullable s) p) (Opens s p) (OpensRow s p) (λ e. (opens_row, opens_from e (at s e) refl)) here (suc e) e (omega arith)
  where
    here : (f : ℕ → Bool) (e : ℕ) (o : Option Row) → at s e ≡ o
        → ((a : ℕ) (k : Side) → Part s e k a → T (f a) ↔ Opens s p a) → T (open_step (nullable s) p f e o) ↔ OpensRow s p e o
    here f e none i ih = never
    here f e (some empty) i ih = never
    here f e (some one_text) i ih = same_number p e
    here f e (some (named l d)) i ih = same_number p e
    here f e (some (any d)) i ih = same_number p e
    here f e (some (seq a b)) i ih =
        or_iff (f a) (nullable s a && f b) (ih a first (seq_first i))
        (and_iff (nullable s a) (f b) (is_nullable s w a) (ih b second (seq_second i)))
    here f e (some (alt a b)) i ih = or_iff (f a) (f b) (ih a first (alt_first i)) (ih b second (alt_second i))
    here f e (some (many a)) i ih = ih a first (many_part i)
    here f e (some (def a)) i ih = ih a first (def_part i)

pub is_closing : (s : Sheet) → WellFormed s → (q e : ℕ) → T (closing s q e) ↔ Closes s q e
unfolding closing
is_closing s w q e =
    tells s w (close_step (nullable s) q) (Closes s q) (ClosesRow s q) (λ e. (closes_row, closes_from e (at s e) refl)) here (suc e) e (omega arith)
  where
    here : (f : ℕ → Bool) (e : ℕ) (o : Option Row) → at s e ≡ o
        → ((a : ℕ) (k : Side) → Part s e k a → T (f a) ↔ Closes s q a) → T (close_step (nullable s) q f e o) ↔ ClosesRow s q e o
    here f e none i ih = never
    here f e (some empty) i ih = never
    here f e (some one_text) i ih = same_number q e
    here f e (some (named l d)) i ih = same_number q e
    here f e (some (any d)) i ih = same_number q e
    here f e (some (seq a b)) i ih =
        or_iff (f a && nullable s b) (f b) (and_iff (f a) (nullable s b) (ih a first (seq_first i)) (is_nullable s w b))
        (ih b second (seq_second i))
    here f e (some (alt a b)) i ih = or_iff (f a) (f b) (ih a first (alt_first i)) (ih b second (alt_second i))
    here f e (some (many a)) i ih = ih a first (many_part i)
    here f e (some (def a)) i ih = ih a first (def_part i)

pub is_following : (s : Sheet) → WellFormed s → (q p e : ℕ) → T (following s q p e) ↔ Next s q p e
unfolding following
is_following s w q p e =
    tells s w (next_step (closing s q) (opening s p)) (Next s q p) (NextRow s q p) (λ e. (next_row, next_from e (at s e) refl)) here (suc e) e (omega arith)
  where
    here : (f : ℕ → Bool) (e : ℕ) (o : Option Row) → at s e ≡ o
        → ((a : ℕ) (k : Side) → Part s e k a → T (f a) ↔ Next s q p a)
        → T (next_step (closing s q) (opening s p) f e o) ↔ NextRow s q p e o
    here f e none i ih = never
    here f e (some empty) i ih = never
    here f e (some one_text) i ih = never
    here f e (some (named l d)) i ih = never
    here f e (some (any d)) i ih = never
    here f e (some (seq a b)) i ih =
        or_iff (f a) (f b || (closing s q a && opening s p b)) (ih a first (seq_first i))
        (or_iff (f b) (closing s q a && opening s p b) (ih b second (seq_second i))
        (and_iff (closing s q a) (opening s p b) (is_closing s w q a) (is_opening s w p b)))
    here f e (some (alt a b)) i ih = or_iff (f a) (f b) (ih a first (alt_first i)) (ih b second (alt_second i))
    here f e (some (many a)) i ih =
        or_iff (f a) (closing s q a && opening s p a) (ih a first (many_part i))
        (and_iff (closing s q a) (opening s p a) (is_closing s w q a) (is_opening s w p a))
    here f e (some (def a)) i ih = ih a first (def_part i)
