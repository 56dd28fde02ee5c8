-- A test of soundness that computes.
use Rattle.std.proofs.Common.{◌≡◌, ℕ, zero, suc, ◌<◌, ◌≤◌, Bool, true, false, ◌&&◌, T, eqb, ltb, leb, [], ◌∷◌, length, sym, refl, subst, inl, inr, arith, eqb→eq, ltb→lt, leb→le}
use Rattle.std.proofs.Math.Option.{Option, none, some}
use Rattle.std.proofs.Math.Decide.{ℕ_discrete}
use Rattle.forest.specs.Forest.{Label}
use Rattle.rows.specs.declared.row.Row.{Row}
use Rattle.rows.specs.declared.row.Row.TheVariants.{Empty as empty, Text as one_text, Named as named, Any as any, Seq as seq, Alt as alt, Many as many, Def as def}
use Rattle.rows.specs.Sheet.{Sheet, at, definitions, Side, places, Sound}
use Rattle.rows.specs.Parts.{uses}
use Rattle.rows.specs.Checking.{PartsFit, OnceAPart, is_definition, ContentThere}
use Rattle.rows.proofs.Fronts.{PartRow, part_row, part_below}
use Rattle.rows.proofs.Numbers.{at_below}
use Rattle.rows.proofs.Checks.{NamesRow, names_row, names_below}
use Rattle.rows.proofs.Tallies.{once_used}
use Rattle.rows.proofs.Sounding.{sound_from}

pub both : (a b : Bool) → T (a && b) → T a × T b
both true true h = (tt, tt)
both true false h = absurd h
both false b h = absurd h

abbrev pub all_below : ℕ → (ℕ → Bool) → Bool
all_below zero f = true
all_below (suc n) f = f n && all_below n f

pub all_at : (n : ℕ) (f : ℕ → Bool) → T (all_below n f) → (k : ℕ) → k < n → T (f k)
all_at zero f h k l = absurd (omega arith)
all_at (suc n) f h k l =
    let z = both (f n) (all_below n f) h in
    elim (ℕ_discrete k n) [ yes q ↦ subst (λ (j : ℕ). T (f j)) (sym q) z.0 | no q ↦ all_at n f z.1 k (omega arith) ]

abbrev pub plain? : Option Row → Bool
plain? none = true
plain? (some empty) = true
plain? (some one_text) = true
plain? (some (named l d)) = true
plain? (some (any d)) = true
plain? (some (seq a b)) = true
plain? (some (alt a b)) = true
plain? (some (many a)) = true
plain? (some (def a)) = false

abbrev pub sits? : Sheet → ℕ → ℕ → Bool
sits? s e a = ltb a e && plain? (at s a)

abbrev pub parts? : Sheet → ℕ → Option Row → Bool
parts? s e none = true
parts? s e (some empty) = true
parts? s e (some one_text) = true
parts? s e (some (named l d)) = true
parts? s e (some (any d)) = true
parts? s e (some (seq a b)) = sits? s e a && sits? s e b
parts? s e (some (alt a b)) = sits? s e a && sits? s e b
parts? s e (some (many a)) = sits? s e a
parts? s e (some (def a)) = sits? s e a

abbrev pub label? : Option Row → Bool
label? none = true
label? (some empty) = true
label? (some one_text) = true
label? (some (named l d)) = ltb 0 l && ltb l 65536
label? (some (any d)) = true
label? (some (seq a b)) = true
label? (some (alt a b)) = true
label? (some (many a)) = true
label? (some (def a)) = true

abbrev pub content? : Sheet → Option Row → Bool
content? s none = true
content? s (some empty) = true
content? s (some one_text) = true
content? s (some (named l d)) = ltb d (definitions s)
content? s (some (any d)) = ltb d (definitions s)
content? s (some (seq a b)) = true
content? s (some (alt a b)) = true
content? s (some (many a)) = true
content? s (some (def a)) = true

abbrev pub once? : Sheet → ℕ → Option Row → Bool
once? s a none = true
once? s a (some empty) = eqb (uses s (length s) a) 1
once? s a (some one_text) = eqb (uses s (length s) a) 1
once? s a (some (named l d)) = eqb (uses s (length s) a) 1
once? s a (some (any d)) = eqb (uses s (length s) a) 1
once? s a (some (seq x y)) = eqb (uses s (length s) a) 1
once? s a (some (alt x y)) = eqb (uses s (length s) a) 1
once? s a (some (many x)) = eqb (uses s (length s) a) 1
once? s a (some (def x)) = true

-- The labels are labels and the parts fit; so of 1 to 128 rows.
abbrev pub front? : Sheet → Bool
front? s = all_below (length s) (λ e. label? (at s e)) && all_below (length s) (λ e. parts? s e (at s e))

abbrev pub shape? : Sheet → Bool
shape? s = (ltb 0 (length s) && leb (length s) 128) && front? s

abbrev pub all_once? : Sheet → Bool
all_once? s = all_below (length s) (λ a. once? s a (at s a))

abbrev pub all_there? : Sheet → Bool
all_there? s = all_below (length s) (λ p. content? s (at s p))

abbrev pub sound? : Sheet → Bool
sound? s = shape? s && (all_once? s && (all_there? s && leb (places s) 64))

pub not_plain : (s : Sheet) (a x : ℕ) → T (plain? (at s a)) → at s a ≡ some (def x) → ⊥
not_plain s a x h i = subst (λ (o : Option Row). T (plain? o)) i h

sits : (s : Sheet) (e a : ℕ) → T (sits? s e a) → (a < e) × ((x : ℕ) → at s a ≡ some (def x) → ⊥)
sits s e a h = let z = both (ltb a e) (plain? (at s a)) h in (ltb→lt a e z.0, λ x i. not_plain s a x z.1 i)

fits : (s : Sheet) (e : ℕ) (o : Option Row) → T (parts? s e o) → (k : Side) (a : ℕ) → PartRow k a o → (a < e) × ((x : ℕ) → at s a ≡ some (def x) → ⊥)
fits s e none h k a z = elim z [ ]
fits s e (some empty) h k a z = elim z [ ]
fits s e (some one_text) h k a z = elim z [ ]
fits s e (some (named l d)) h k a z = elim z [ ]
fits s e (some (any d)) h k a z = elim z [ ]
fits s e (some (seq x y)) h k a (inl z) = rw z.1 (sits s e x (both (sits? s e x) (sits? s e y) h).0)
fits s e (some (seq x y)) h k a (inr z) = rw z.1 (sits s e y (both (sits? s e x) (sits? s e y) h).1)
fits s e (some (alt x y)) h k a (inl z) = rw z.1 (sits s e x (both (sits? s e x) (sits? s e y) h).0)
fits s e (some (alt x y)) h k a (inr z) = rw z.1 (sits s e y (both (sits? s e x) (sits? s e y) h).1)
fits s e (some (many x)) h k a z = rw z.1 (sits s e x h)
fits s e (some (def x)) h k a z = rw z.1 (sits s e x h)

there : (s : Sheet) (d : ℕ) (o : Option Row) → T (content? s o) → NamesRow d o → d < definitions s
there s d none h z = elim z [ ]
there s d (some empty) h z = elim z [ ]
there s d (some one_text) h z = elim z [ ]
there s d (some (named l c)) h z = rw z (ltb→lt c (definitions s) h)
there s d (some (any c)) h z = rw z (ltb→lt c (definitions s) h)
there s d (some (seq a b)) h z = elim z [ ]
there s d (some (alt a b)) h z = elim z [ ]
there s d (some (many a)) h z = elim z [ ]
there s d (some (def a)) h z = elim z [ ]

pub once : (s : Sheet) (a : ℕ) (o : Option Row) → at s a ≡ o → T (once? s a o) → a < length s → OnceAPart s a
once s a none i h l = absurd (no_row s a i l)
  where
    no_row : (s : Sheet) (a : ℕ) → at s a ≡ none → a < length s → ⊥
    no_row [] a i l = omega arith
    no_row (r ∷ s) zero i l = cc
    no_row (r ∷ s) (suc a) i l = no_row s a i (omega arith)
once s a (some empty) i h l = once_used s a (eqb→eq _ _ h)
once s a (some one_text) i h l = once_used s a (eqb→eq _ _ h)
once s a (some (named k d)) i h l = once_used s a (eqb→eq _ _ h)
once s a (some (any d)) i h l = once_used s a (eqb→eq _ _ h)
once s a (some (seq x y)) i h l = once_used s a (eqb→eq _ _ h)
once s a (some (alt x y)) i h l = once_used s a (eqb→eq _ _ h)
once s a (some (many x)) i h l = once_used s a (eqb→eq _ _ h)
once s a (some (def x)) i h l = is_definition i

pub record Fronted (s : Sheet) : Type 0 where
  pub labelled : (e l d : ℕ) → at s e ≡ some (named l d) → Label l
  pub fit : (e : ℕ) → PartsFit s e

pub fronted : (s : Sheet) → T (front? s) → Fronted s
fronted s h =
    let x = both (all_below (length s) (λ e. label? (at s e))) (all_below (length s) (λ e. parts? s e (at s e))) h in
    record {
      labelled = λ e l d i.
          let t = subst (λ (o : Option Row). T (label? o)) i (all_at (length s) (λ e. label? (at s e)) x.0 e (at_below s e (named l d) i)) in
          let w = both (ltb 0 l) (ltb l 65536) t in
          (ltb→lt 0 l w.0, ltb→lt l 65536 w.1);
      fit = λ e k a p. fits s e (at s e) (all_at (length s) (λ e. parts? s e (at s e)) x.1 e (part_below p)) k a (part_row p);
    }

pub sized : (s : Sheet) → T (shape? s) → (0 < length s) × (length s ≤ 128) × Fronted s
sized s h =
    let z = both (ltb 0 (length s) && leb (length s) 128) (front? s) h in
    let y = both (ltb 0 (length s)) (leb (length s) 128) z.0 in
    (ltb→lt 0 (length s) y.0, leb→le (length s) 128 y.1, fronted s z.1)

pub once_below : (s : Sheet) (n : ℕ) → n ≤ length s → T (all_below n (λ a. once? s a (at s a))) → (a : ℕ) → a < n → OnceAPart s a
once_below s n m h a l = once s a (at s a) refl (all_at n (λ a. once? s a (at s a)) h a l) (omega arith)

pub there_below : (s : Sheet) (n : ℕ) → T (all_below n (λ p. content? s (at s p))) → (p : ℕ) → p < n → ContentThere s p
there_below s n h p l d m = there s d (at s p) (all_at n (λ p. content? s (at s p)) h p l) (names_row m)

pub all_there : (s : Sheet) → T (all_there? s) → (p : ℕ) → ContentThere s p
all_there s h p d m = there_below s (length s) h p (names_below m) d m

pub is_sound : (s : Sheet) → sound? s ≡ true → Sound s
is_sound s q =
    let h : T (sound? s) = subst (λ (b : Bool). T b) (sym q) tt in
    let z = both (shape? s) (all_once? s && (all_there? s && leb (places s) 64)) h in
    let y = both (all_once? s) (all_there? s && leb (places s) 64) z.1 in
    let x = both (all_there? s) (leb (places s) 64) y.1 in
    let w = sized s z.0 in
    sound_from s w.0 w.1 w.2.labelled (λ e k a p. w.2.fit e k a p)
    (once_below s (length s) (omega arith) y.0) (λ p d n. all_there s x.0 p d n) (leb→le (places s) 64 x.1)
