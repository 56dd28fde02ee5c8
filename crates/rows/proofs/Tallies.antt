-- Counting how often a row is a part tells whether it is one exactly once.
use Rattle.std.proofs.Common.{◌≡◌, ℕ, zero, suc, ◌+◌, ◌*◌, ◌<◌, ◌≤◌, Bool, true, false, cond, T, eqb, ◌⊎◌, length, get_or, replicate, sym, refl, ◌∙◌, subst, inl, inr, arith, eqb→eq}
use mathlib.Core.Option.{Option, none, some}
use lib.Dec.{eqb_refl}
use Rattle.rows.specs.Sheet.{Sheet, Row, empty, one_text, named, any, seq, alt, many, def, at, Side, first, second}
use Rattle.rows.specs.Sheet.{Part, seq_first, seq_second, alt_first, alt_second, many_part, def_part}
use Rattle.rows.specs.Parts.{PartsBelow, hit, hits, uses}
use Rattle.rows.specs.Checking.{PartsFit, OnceAPart, is_definition, is_part}
use Rattle.rows.proofs.Fronts.{PartRow, part_row, part_from, part_below, below_or_not}

pub zeros : (n a : ℕ) → ◌≡◌ {A = ℕ} (get_or (replicate n 0) a 0) 0
zeros zero a = refl
zeros (suc n) zero = refl
zeros (suc n) (suc a) = zeros n a

pub fit_below : (s : Sheet) (e n : ℕ) (r : Row) → ((e : ℕ) → PartsFit s e) → at s e ≡ some r → e < n → PartsBelow r n
fit_below s e n empty f i h = tt
fit_below s e n one_text f i h = tt
fit_below s e n (named l d) f i h = tt
fit_below s e n (any d) f i h = tt
fit_below s e n (seq a b) f i h =
    let x = (f e first a (seq_first i)).0 in let y = (f e second b (seq_second i)).0 in (omega arith, omega arith)
fit_below s e n (alt a b) f i h =
    let x = (f e first a (alt_first i)).0 in let y = (f e second b (alt_second i)).0 in (omega arith, omega arith)
fit_below s e n (many a) f i h = let x = (f e first a (many_part i)).0 in omega arith
fit_below s e n (def a) f i h = let x = (f e first a (def_part i)).0 in omega arith

-- One part.
hit_same : (a x : ℕ) → a ≡ x → hit a x ≡ 1
hit_same a x q = go (eqb a x) (rw q (eqb_refl x))
  where
    go : (b : Bool) → T b → ◌≡◌ {A = ℕ} (cond b 1 0) 1
    go true t = refl
    go false t = elim t [ ]

hit_most : (a x : ℕ) → hit a x ≤ 1
hit_most a x = go (eqb a x)
  where
    go : (b : Bool) → cond b 1 0 ≤ 1
    go true = omega arith
    go false = omega arith

hit_is : (a x : ℕ) → 0 < hit a x → a ≡ x
hit_is a x h = eqb→eq a x (go (eqb a x) h)
  where
    go : (b : Bool) → 0 < cond b 1 0 → T b
    go true t = tt
    go false t = absurd (omega arith)

pub hits_most : (a : ℕ) (o : Option Row) → hits a o ≤ 2
hits_most a none = omega arith
hits_most a (some empty) = omega arith
hits_most a (some one_text) = omega arith
hits_most a (some (named l d)) = omega arith
hits_most a (some (any d)) = omega arith
hits_most a (some (seq x y)) = let p = hit_most a x in let q = hit_most a y in omega arith
hits_most a (some (alt x y)) = let p = hit_most a x in let q = hit_most a y in omega arith
hits_most a (some (many x)) = let p = hit_most a x in omega arith
hits_most a (some (def x)) = let p = hit_most a x in omega arith

pub hits_pos : (a : ℕ) (k : Side) (o : Option Row) → PartRow k a o → 0 < hits a o
hits_pos a k none z = elim z [ ]
hits_pos a k (some empty) z = elim z [ ]
hits_pos a k (some one_text) z = elim z [ ]
hits_pos a k (some (named l d)) z = elim z [ ]
hits_pos a k (some (any d)) z = elim z [ ]
hits_pos a k (some (seq x y)) (inl z) = let p = hit_same a x z.1 in omega arith
hits_pos a k (some (seq x y)) (inr z) = let p = hit_same a y z.1 in omega arith
hits_pos a k (some (alt x y)) (inl z) = let p = hit_same a x z.1 in omega arith
hits_pos a k (some (alt x y)) (inr z) = let p = hit_same a y z.1 in omega arith
hits_pos a k (some (many x)) z = let p = hit_same a x z.1 in omega arith
hits_pos a k (some (def x)) z = let p = hit_same a x z.1 in omega arith

one_of_two : (a x y : ℕ) → 0 < hit a x + hit a y → (k : Side) × (((k ≡ first) × (a ≡ x)) ⊎ ((k ≡ second) × (a ≡ y)))
one_of_two a x y h =
    elim (below_or_not 0 (hit a x)) [
      | inl p ↦ (first, inl (refl, hit_is a x p))
      | inr p ↦ (second, inr (refl, hit_is a y (omega arith)))
    ]

pub hits_some : (a : ℕ) (o : Option Row) → 0 < hits a o → (k : Side) × PartRow k a o
hits_some a none h = absurd (omega arith)
hits_some a (some empty) h = absurd (omega arith)
hits_some a (some one_text) h = absurd (omega arith)
hits_some a (some (named l d)) h = absurd (omega arith)
hits_some a (some (any d)) h = absurd (omega arith)
hits_some a (some (seq x y)) h = one_of_two a x y h
hits_some a (some (alt x y)) h = one_of_two a x y h
hits_some a (some (many x)) h = (first, (refl, hit_is a x h))
hits_some a (some (def x)) h = (first, (refl, hit_is a x h))

sides_apart : first ≡ second → ⊥
sides_apart h = cc

-- Both sides of a row are not the same row where that is hit once, and it is hit once where they are not.
two_apart : (a x y : ℕ) → hit a x + hit a y ≡ 1 → (k k' : Side)
    → ((k ≡ first) × (a ≡ x)) ⊎ ((k ≡ second) × (a ≡ y)) → ((k' ≡ first) × (a ≡ x)) ⊎ ((k' ≡ second) × (a ≡ y)) → k ≡ k'
two_apart a x y h k k' (inl z) (inl w) = z.0 ∙ sym w.0
two_apart a x y h k k' (inr z) (inr w) = z.0 ∙ sym w.0
two_apart a x y h k k' (inl z) (inr w) = let p = hit_same a x z.1 in let q = hit_same a y w.1 in absurd (omega arith)
two_apart a x y h k k' (inr z) (inl w) = let p = hit_same a y z.1 in let q = hit_same a x w.1 in absurd (omega arith)

pub hits_one : (a : ℕ) (k k' : Side) (o : Option Row) → hits a o ≡ 1 → PartRow k a o → PartRow k' a o → k ≡ k'
hits_one a k k' none h z w = elim z [ ]
hits_one a k k' (some empty) h z w = elim z [ ]
hits_one a k k' (some one_text) h z w = elim z [ ]
hits_one a k k' (some (named l d)) h z w = elim z [ ]
hits_one a k k' (some (any d)) h z w = elim z [ ]
hits_one a k k' (some (seq x y)) h z w = two_apart a x y h k k' z w
hits_one a k k' (some (alt x y)) h z w = two_apart a x y h k k' z w
hits_one a k k' (some (many x)) h z w = z.0 ∙ sym w.0
hits_one a k k' (some (def x)) h z w = z.0 ∙ sym w.0

abbrev OneSide : ℕ → Option Row → Type 0
OneSide a o = (k k' : Side) → PartRow k a o → PartRow k' a o → k ≡ k'

two_once : (a x y : ℕ)
    → ((k k' : Side) → ((k ≡ first) × (a ≡ x)) ⊎ ((k ≡ second) × (a ≡ y)) → ((k' ≡ first) × (a ≡ x)) ⊎ ((k' ≡ second) × (a ≡ y)) → k ≡ k')
    → hit a x + hit a y ≤ 1
two_once a x y f =
    let p = hit_most a x in
    let q = hit_most a y in
    elim (below_or_not 0 (hit a x)) [
      | inr u ↦ omega arith
      | inl u ↦ elim (below_or_not 0 (hit a y)) [
        | inr v ↦ omega arith
        | inl v ↦ absurd (sides_apart (f first second (inl (refl, hit_is a x u)) (inr (refl, hit_is a y v))))
      ]
    ]

pub hits_once : (a : ℕ) (o : Option Row) → OneSide a o → hits a o ≤ 1
hits_once a none f = omega arith
hits_once a (some empty) f = omega arith
hits_once a (some one_text) f = omega arith
hits_once a (some (named l d)) f = omega arith
hits_once a (some (any d)) f = omega arith
hits_once a (some (seq x y)) f = two_once a x y f
hits_once a (some (alt x y)) f = two_once a x y f
hits_once a (some (many x)) f = hit_most a x
hits_once a (some (def x)) f = hit_most a x

-- Over the first rows.
pub uses_most : (s : Sheet) (i a : ℕ) → uses s i a ≤ 2 * i
uses_most s zero a = omega arith
uses_most s (suc i) a = let p = uses_most s i a in let q = hits_most a (at s i) in omega arith

pub uses_pos : (s : Sheet) (i a e : ℕ) (k : Side) → e < i → Part s e k a → 0 < uses s i a
uses_pos s zero a e k h z = absurd (omega arith)
uses_pos s (suc i) a e k h z =
    elim (below_or_not e i) [
      | inl l ↦ let p = uses_pos s i a e k l z in omega arith
      | inr l ↦
          let q : e ≡ i = omega arith in
          let p = hits_pos a k (at s i) (subst (λ (j : ℕ). PartRow k a (at s j)) q (part_row z)) in
          omega arith
    ]

pub record Somewhere (s : Sheet) (i a : ℕ) : Type 0 where
  pub row : ℕ
  pub side : Side
  pub within : row < i
  pub part : Part s row side a

pub uses_some : (s : Sheet) (i a : ℕ) → 0 < uses s i a → Somewhere s i a
uses_some s zero a h = absurd (omega arith)
uses_some s (suc i) a h =
    elim (below_or_not 0 (uses s i a)) [
      | inl p ↦ let z = uses_some s i a p in let w = z.within in record { row = z.row; side = z.side; within = omega arith; part = z.part }
      | inr p ↦
          let z = hits_some a (at s i) (omega arith) in
          record { row = i; side = z.0; within = omega arith; part = part_from i a z.0 (at s i) refl z.1 }
    ]

pub uses_one : (s : Sheet) (i a : ℕ) → uses s i a ≡ 1 → (e e' : ℕ) (k k' : Side) → e < i → e' < i
    → Part s e k a → Part s e' k' a → (e ≡ e') × (k ≡ k')
uses_one s zero a h e e' k k' l l' z w = absurd (omega arith)
uses_one s (suc i) a h e e' k k' l l' z w = go (below_or_not e i) (below_or_not e' i) (λ u m m'. uses_one s i a u e e' k k' m m' z w)
  where
    go : (e < i) ⊎ (i ≤ e) → (e' < i) ⊎ (i ≤ e')
        → (uses s i a ≡ 1 → e < i → e' < i → (e ≡ e') × (k ≡ k')) → (e ≡ e') × (k ≡ k')
    go (inl m) (inl m') ih = let p = uses_pos s i a e k m z in ih (omega arith) m m'
    go (inl m) (inr m') ih =
        let q : e' ≡ i = omega arith in
        let p = uses_pos s i a e k m z in
        let r = hits_pos a k' (at s i) (subst (λ (j : ℕ). PartRow k' a (at s j)) q (part_row w)) in
        absurd (omega arith)
    go (inr m) (inl m') ih =
        let q : e ≡ i = omega arith in
        let p = uses_pos s i a e' k' m' w in
        let r = hits_pos a k (at s i) (subst (λ (j : ℕ). PartRow k a (at s j)) q (part_row z)) in
        absurd (omega arith)
    go (inr m) (inr m') ih =
        let q : e ≡ i = omega arith in
        let q' : e' ≡ i = omega arith in
        let x = subst (λ (j : ℕ). PartRow k a (at s j)) q (part_row z) in
        let y = subst (λ (j : ℕ). PartRow k' a (at s j)) q' (part_row w) in
        let r = hits_pos a k (at s i) x in
        (omega arith, hits_one a k k' (at s i) (omega arith) x y)

pub uses_once : (s : Sheet) (i a : ℕ) → ((e e' : ℕ) (k k' : Side) → Part s e k a → Part s e' k' a → (e ≡ e') × (k ≡ k')) → uses s i a ≤ 1
uses_once s zero a u = omega arith
uses_once s (suc i) a u =
    let ih = uses_once s i a u in
    elim (below_or_not 0 (uses s i a)) [
      | inr p ↦
          let z = hits_once a (at s i) (λ k k' x y. (u i i k k' (part_from i a k (at s i) refl x) (part_from i a k' (at s i) refl y)).1) in
          omega arith
      | inl p ↦ elim (below_or_not 0 (hits a (at s i))) [
        | inr r ↦ omega arith
        | inl r ↦
            let z = uses_some s i a p in
            let w = hits_some a (at s i) r in
            let q = (u z.row i z.side w.0 z.part (part_from i a w.0 (at s i) refl w.1)).0 in
            let l = z.within in
            absurd (omega arith)
      ]
    ]

-- A row that is used once is a part once; one that is a part once is used once.
pub once_used : (s : Sheet) (a : ℕ) → uses s (length s) a ≡ 1 → OnceAPart s a
once_used s a h =
    let z = uses_some s (length s) a (omega arith) in
    is_part z.part
    (λ e' k' w. uses_one s (length s) a h e' z.row k' z.side (part_below w) z.within w z.part)

pub used_once : (s : Sheet) (a : ℕ) → ((x : ℕ) → at s a ≡ some (def x) → ⊥) → OnceAPart s a → uses s (length s) a ≡ 1
used_once s a n (is_definition {x = x} i) = absurd (n x i)
used_once s a n (is_part {e = e} {k = k} p u) =
    let lo = uses_pos s (length s) a e k (part_below p) p in
    let hi = uses_once s (length s) a (λ e₁ e₂ k₁ k₂ z w.
    let x = u e₁ k₁ z in let y = u e₂ k₂ w in (x.0 ∙ sym y.0, x.1 ∙ sym y.1)) in
    omega arith
