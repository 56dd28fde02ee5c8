-- Fronts of sheets, and rows taken in one by one.
use Rattle.std.proofs.Common.{◌≡◌, ℕ, zero, suc, ◌<◌, ◌≤◌, ◌⊎◌, List, [], ◌∷◌, ◌++◌, length, take, sym, refl, ap, ◌∙◌, inl, inr, arith}
use mathlib.Core.Option.{Option, none, some}
use native.Mathlib.Decide.{dec_lt}
use Rattle.std.proofs.lemmas.List.{length_push}
use Rattle.rows.specs.Sheet.{Sheet, Row, empty, one_text, named, any, seq, alt, many, def, at, Side, first, second}
use Rattle.rows.specs.Sheet.{Part, seq_first, seq_second, alt_first, alt_second, many_part, def_part}
use Rattle.rows.specs.Raw.{RawRow, Says, says_empty, says_text, says_named, says_any, says_seq, says_alt, says_many, says_def, RowSays, AllSay, none_say, one_says}
use Rattle.rows.specs.Parts.{Sits, PartsSit}
use Rattle.rows.specs.Checking.{PartsFit}
use Rattle.rows.proofs.Numbers.{at_below}

pub at_front : (s : Sheet) (n e : ℕ) → e < n → at (take n s) e ≡ at s e
at_front s zero e h = absurd (omega arith)
at_front [] (suc n) e h = refl
at_front (r ∷ s) (suc n) zero h = refl
at_front (r ∷ s) (suc n) (suc e) h = at_front s n e (omega arith)

pub at_left : (s t : Sheet) (e : ℕ) → e < length s → at (s ++ t) e ≡ at s e
at_left [] t e h = absurd (omega arith)
at_left (r ∷ s) t zero h = refl
at_left (r ∷ s) t (suc e) h = at_left s t e (omega arith)

pub at_end : (s : Sheet) (x : Row) → at (s ++ x ∷ []) (length s) ≡ some x
at_end [] x = refl
at_end (r ∷ s) x = at_end s x

-- A part by its row.
abbrev pub PartRow : Side → ℕ → Option Row → Type 0
PartRow k a none = ⊥
PartRow k a (some empty) = ⊥
PartRow k a (some one_text) = ⊥
PartRow k a (some (named l d)) = ⊥
PartRow k a (some (any d)) = ⊥
PartRow k a (some (seq x y)) = ((k ≡ first) × (a ≡ x)) ⊎ ((k ≡ second) × (a ≡ y))
PartRow k a (some (alt x y)) = ((k ≡ first) × (a ≡ x)) ⊎ ((k ≡ second) × (a ≡ y))
PartRow k a (some (many x)) = (k ≡ first) × (a ≡ x)
PartRow k a (some (def x)) = (k ≡ first) × (a ≡ x)

pub part_row : {s : Sheet} {e a : ℕ} {k : Side} → Part s e k a → PartRow k a (at s e)
part_row (seq_first i) = rw i (inl (refl, refl))
part_row (seq_second i) = rw i (inr (refl, refl))
part_row (alt_first i) = rw i (inl (refl, refl))
part_row (alt_second i) = rw i (inr (refl, refl))
part_row (many_part i) = rw i (refl, refl)
part_row (def_part i) = rw i (refl, refl)

pub part_from : {s : Sheet} (e a : ℕ) (k : Side) (o : Option Row) → at s e ≡ o → PartRow k a o → Part s e k a
part_from e a k none i x = elim x [ ]
part_from e a k (some empty) i x = elim x [ ]
part_from e a k (some one_text) i x = elim x [ ]
part_from e a k (some (named l d)) i x = elim x [ ]
part_from e a k (some (any d)) i x = elim x [ ]
part_from e a k (some (seq y z)) i (inl x) = rw (x.0, x.1) (seq_first i)
part_from e a k (some (seq y z)) i (inr x) = rw (x.0, x.1) (seq_second i)
part_from e a k (some (alt y z)) i (inl x) = rw (x.0, x.1) (alt_first i)
part_from e a k (some (alt y z)) i (inr x) = rw (x.0, x.1) (alt_second i)
part_from e a k (some (many y)) i x = rw (x.0, x.1) (many_part i)
part_from e a k (some (def y)) i x = rw (x.0, x.1) (def_part i)

pub part_below : {s : Sheet} {e a : ℕ} {k : Side} → Part s e k a → e < length s
part_below {s} {e} (seq_first {a = a} {b = b} i) = at_below s e (seq a b) i
part_below {s} {e} (seq_second {a = a} {b = b} i) = at_below s e (seq a b) i
part_below {s} {e} (alt_first {a = a} {b = b} i) = at_below s e (alt a b) i
part_below {s} {e} (alt_second {a = a} {b = b} i) = at_below s e (alt a b) i
part_below {s} {e} (many_part {a = a} i) = at_below s e (many a) i
part_below {s} {e} (def_part {a = a} i) = at_below s e (def a) i

-- A part is one wherever the row is the same.
pub part_same : {s t : Sheet} {e a : ℕ} {k : Side} → at s e ≡ at t e → Part s e k a → Part t e k a
part_same {s} {t} {e} {a} {k} q x = part_from e a k (at s e) (sym q) (part_row x)

-- The parts of one more row fit if they sit.
sit_fit : (s : Sheet) (x : Row) (k : Side) (a : ℕ) → PartsSit x s → PartRow k a (some x) → Sits s a
sit_fit s empty k a p z = elim z [ ]
sit_fit s one_text k a p z = elim z [ ]
sit_fit s (named l d) k a p z = elim z [ ]
sit_fit s (any d) k a p z = elim z [ ]
sit_fit s (seq y w) k a p (inl z) = rw z.1 p.0
sit_fit s (seq y w) k a p (inr z) = rw z.1 p.1
sit_fit s (alt y w) k a p (inl z) = rw z.1 p.0
sit_fit s (alt y w) k a p (inr z) = rw z.1 p.1
sit_fit s (many y) k a p z = rw z.1 p
sit_fit s (def y) k a p z = rw z.1 p

fit_sit : (s : Sheet) (x : Row) → ((k : Side) (a : ℕ) → PartRow k a (some x) → Sits s a) → PartsSit x s
fit_sit s empty f = tt
fit_sit s one_text f = tt
fit_sit s (named l d) f = tt
fit_sit s (any d) f = tt
fit_sit s (seq y w) f = (f first y (inl (refl, refl)), f second w (inr (refl, refl)))
fit_sit s (alt y w) f = (f first y (inl (refl, refl)), f second w (inr (refl, refl)))
fit_sit s (many y) f = f first y (refl, refl)
fit_sit s (def y) f = f first y (refl, refl)

-- A number is below another or not.
pub below_or_not : (m n : ℕ) → (m < n) ⊎ (n ≤ m)
below_or_not m n = elim (dec_lt m n) [ yes h ↦ inl h | no h ↦ inr (omega arith) ]

pub fits_push : (s : Sheet) (x : Row) → ((e : ℕ) → PartsFit s e) → PartsSit x s → (e : ℕ) → PartsFit (s ++ x ∷ []) e
fits_push s x f p e k a z = go (below_or_not e (length s)) (part_below z)
  where
    go : (e < length s) ⊎ (length s ≤ e) → e < length (s ++ x ∷ []) → (a < e) × ((y : ℕ) → at (s ++ x ∷ []) a ≡ some (def y) → ⊥)
    go (inl l) n =
        let w = f e k a (part_same {s = s ++ x ∷ []} {t = s} (at_left s (x ∷ []) e l) z) in
        let h = w.0 in
        (h, λ y i. w.1 y (sym (at_left s (x ∷ []) a (omega arith)) ∙ i))
    go (inr l) n =
        let q : e ≡ length s = omega (arith, length_push s x) in
        let o : at (s ++ x ∷ []) e ≡ some x = ap (λ (j : ℕ). at (s ++ x ∷ []) j) q ∙ at_end s x in
        let w = sit_fit s x k a p (rw o at (part_row z)) in
        let h = w.lower in
        (omega arith, λ y i. w.plain y (sym (at_left s (x ∷ []) a h) ∙ i))

pub misfit : (s : Sheet) (x : Row) → (PartsSit x s → ⊥) → PartsFit (s ++ x ∷ []) (length s) → ⊥
misfit s x n f =
    n (fit_sit s x (λ k a z.
    let w = f k a (part_from (length s) a k (some x) (at_end s x) z) in
    let h = w.0 in
    record { lower = h; plain = λ y i. w.1 y (at_left s (x ∷ []) a h ∙ i) }))

-- What rows say.
pub says_once : {k a b c : ℕ} {x y : Row} → Says k a b c x → Says k a b c y → x ≡ y
says_once says_empty says_empty = refl
says_once says_text says_text = refl
says_once (says_named h) (says_named g) = refl
says_once says_any says_any = refl
says_once says_seq says_seq = refl
says_once says_alt says_alt = refl
says_once says_many says_many = refl
says_once says_def says_def = refl

pub say_once : {rs : List RawRow} {s t : Sheet} → AllSay rs s → AllSay rs t → s ≡ t
say_once none_say none_say = refl
say_once (one_says x u) (one_says y v) = let p = says_once x y in let q = say_once u v in cc

pub say_length : {rs : List RawRow} {s : Sheet} → AllSay rs s → length s ≡ length rs
say_length none_say = refl
say_length (one_says x u) = ap suc (say_length u)

pub say_front : {rs : List RawRow} {s : Sheet} (n : ℕ) → AllSay rs s → AllSay (take n rs) (take n s)
say_front zero u = none_say
say_front (suc n) none_say = none_say
say_front (suc n) (one_says x u) = one_says x (say_front n u)

pub say_push : {rs : List RawRow} {s : Sheet} {r : RawRow} {x : Row} → AllSay rs s → RowSays r x → AllSay (rs ++ r ∷ []) (s ++ x ∷ [])
say_push none_say y = one_says y none_say
say_push (one_says x u) y = one_says x (say_push u y)

-- Of one row more, the last says the last.
pub say_last : (rs : List RawRow) (r : RawRow) (s : Sheet) → AllSay (rs ++ r ∷ []) s → (x : Row) × RowSays r x
say_last [] r s (one_says {x = x} y u) = (x, y)
say_last (q ∷ rs) r s (one_says {s = t} y u) = say_last rs r t u
