-- What stands at the front of an input, from the bytes at its places; and that just one answer fits.
use Rattle.std.proofs.Common.{◌≡◌, ℕ, ◌+◌, ◌-◌, ◌*◌, ◌<◌, ◌≤◌, ◌⊎◌, List, [], ◌∷◌, ◌++◌, length, get_or, take, drop, sym, refl, ap, ◌∙◌, inl, inr, arith, length-append, length-drop, take-append-drop, subst}
use Rattle.std.proofs.lemmas.List.{take_rest, drop_more, take_at, drop_at, length-take-le}
use Rattle.std.proofs.lemmas.Bool.{cases_lt, cases_eq}
use Rattle.stream.specs.Stream.{Kind, a_sheet, a_record, Mark, Answer, at_end, entry, refused, Front, nothing, whole, in_mark, in_length, in_body, no_mark, JustOneFront}

-- The bytes at the first places, and what follows them.
two : (s : List ℕ) → 2 ≤ length s → s ≡ get_or s 0 0 ∷ (get_or s 1 0 ∷ drop 2 s)
two s n = drop_more s 0 0 (omega arith) ∙ ap (λ r. get_or s 0 0 ∷ r) (drop_more s 1 0 (omega arith))

four : (s : List ℕ) → 4 ≤ length s → s ≡ get_or s 0 0 ∷ (get_or s 1 0 ∷ (get_or s 2 0 ∷ (get_or s 3 0 ∷ drop 4 s)))
four s n = two s (omega arith) ∙ ap (λ r. get_or s 0 0 ∷ (get_or s 1 0 ∷ r)) (drop_more s 2 0 (omega arith) ∙ ap (λ r. get_or s 2 0 ∷ r) (drop_more s 3 0 (omega arith)))

pub nothing_at : (s : List ℕ) → length s < 1 → Front s at_end
nothing_at [] h = nothing
nothing_at (a ∷ s) h = absurd (omega arith)

pub whole_at : (k : Kind) (s body rest : List ℕ) → 4 ≤ length s → Mark k (get_or s 0 0) (get_or s 1 0)
    → take (length s - 4) (drop 4 s) ≡ body ++ rest → length body ≡ get_or s 2 0 * 256 + get_or s 3 0 → Front s (entry k body rest)
whole_at k s body rest n m e x =
    subst (λ t. Front t (entry k body rest)) (sym (four s n)) (rw (sym (take_rest s 4) ∙ e) (whole k m x))

pub in_mark_at : (s : List ℕ) → 1 ≤ length s → length s < 2 → Front s (refused 1 0)
in_mark_at [] n h = absurd (omega arith)
in_mark_at (a ∷ []) n h = in_mark
in_mark_at (a ∷ (b ∷ s)) n h = absurd (omega arith)

pub in_length_at : (k : Kind) (s : List ℕ) → 2 ≤ length s → length s < 4 → Mark k (get_or s 0 0) (get_or s 1 0) → Front s (refused 1 0)
in_length_at k s n h m = subst (λ t. Front t (refused 1 0)) (sym (two s n)) (in_length k m (omega (arith, length-drop 2 s)))

pub in_body_at : (k : Kind) (s : List ℕ) → 4 ≤ length s → Mark k (get_or s 0 0) (get_or s 1 0)
    → length (take (length s - 4) (drop 4 s)) < get_or s 2 0 * 256 + get_or s 3 0 → Front s (refused 1 0)
in_body_at k s n m x = subst (λ t. Front t (refused 1 0)) (sym (four s n)) (in_body k m (rw (take_rest s 4) at x))

pub no_mark_at : (s : List ℕ) → 2 ≤ length s
    → (get_or s 0 0 ≡ 0x54 → get_or s 1 0 ≡ 0x53 → ⊥) → (get_or s 0 0 ≡ 0x52 → get_or s 1 0 ≡ 0x43 → ⊥) → Front s (refused 2 0)
no_mark_at s n f g =
    let h : (k : Kind) → Mark k (get_or s 0 0) (get_or s 1 0) → ⊥
    = λ k. elim k as (λ k. Mark k (get_or s 0 0) (get_or s 1 0) → ⊥) [ a_sheet ↦ λ m. f m.0 m.1 | a_record ↦ λ m. g m.0 m.1 ] in
    subst (λ t. Front t (refused 2 0)) (sym (two s n)) (no_mark h)

-- What an answer says of the bytes after a mark.
abbrev Sized : Kind → List ℕ → Answer → Type 0
Sized k [] x = x ≡ refused 1 0
Sized k (h ∷ []) x = x ≡ refused 1 0
Sized k (h ∷ (l ∷ s)) x =
    ((length s < h * 256 + l) × (x ≡ refused 1 0))
    ⊎ ((body rest : List ℕ) × (s ≡ body ++ rest) × (length body ≡ h * 256 + l) × (x ≡ entry k body rest))

abbrev Says : List ℕ → Answer → Type 0
Says [] x = x ≡ at_end
Says (a ∷ []) x = x ≡ refused 1 0
Says (a ∷ (b ∷ s)) x = ((k : Kind) × Mark k a b × Sized k s x) ⊎ (((k : Kind) → Mark k a b → ⊥) × (x ≡ refused 2 0))

short : (k : Kind) (s : List ℕ) → length s < 2 → Sized k s (refused 1 0)
short k [] h = refl
short k (a ∷ []) h = refl
short k (a ∷ (b ∷ s)) h = absurd (omega arith)

says : {s : List ℕ} {x : Answer} → Front s x → Says s x
says nothing = refl
says (whole k {a} {b} {h} {l} {body} {rest} m n) = inl (k, m, inr (body, rest, refl, n, refl))
says in_mark = refl
says (in_length k {a} {b} {s} m h) = inl (k, m, short k s h)
says (in_body k m h) = inl (k, m, inl (h, refl))
says (no_mark f) = inr (f, refl)

one_kind : (j k : Kind) (a b : ℕ) → Mark j a b → Mark k a b → j ≡ k
one_kind a_sheet a_sheet a b m n = refl
one_kind a_sheet a_record a b m n = absurd (omega arith)
one_kind a_record a_sheet a b m n = absurd (omega arith)
one_kind a_record a_record a b m n = refl

one_split : (s body rest body' rest' : List ℕ) (n : ℕ) → s ≡ body ++ rest → length body ≡ n → s ≡ body' ++ rest' → length body' ≡ n
    → (body ≡ body') × (rest ≡ rest')
one_split s body rest body' rest' n e h e' h' =
    let p = take_at body rest n h in let p' = take_at body' rest' n h' in
    let q = drop_at body rest n h in let q' = drop_at body' rest' n h' in
    (cc, cc)

one_sized : (k : Kind) (s : List ℕ) (x y : Answer) → Sized k s x → Sized k s y → x ≡ y
one_sized k [] x y p q = cc
one_sized k (a ∷ []) x y p q = cc
one_sized k (h ∷ (l ∷ s)) x y (inl p) (inl q) = cc
one_sized k (h ∷ (l ∷ s)) x y (inl p) (inr q) = absurd (omega (arith, simp length-append at (ap length q.2)))
one_sized k (h ∷ (l ∷ s)) x y (inr p) (inl q) = absurd (omega (arith, simp length-append at (ap length p.2)))
one_sized k (h ∷ (l ∷ s)) x y (inr p) (inr q) =
    let o = one_split s p.0 p.1 q.0 q.1 _ p.2 p.3 q.2 q.3 in cc

one_says : (s : List ℕ) (x y : Answer) → Says s x → Says s y → x ≡ y
one_says [] x y p q = cc
one_says (a ∷ []) x y p q = cc
one_says (a ∷ (b ∷ s)) x y (inl (j, m, p)) (inl (k, n, q)) = one_sized k s x y (rw (one_kind j k a b m n) at p) q
one_says (a ∷ (b ∷ s)) x y (inl p) (inr q) = absurd (q.0 p.0 p.1)
one_says (a ∷ (b ∷ s)) x y (inr p) (inl q) = absurd (p.0 q.0 q.1)
one_says (a ∷ (b ∷ s)) x y (inr p) (inr q) = cc

-- Some answer fits.
some_sized : (k : Kind) (a b : ℕ) (s : List ℕ) → Mark k a b → (x : Answer) × Front (a ∷ (b ∷ s)) x
some_sized k a b [] m = (refused 1 0, in_length k m (omega arith))
some_sized k a b (h ∷ []) m = (refused 1 0, in_length k m (omega arith))
some_sized k a b (h ∷ (l ∷ s)) m = elim (cases_lt (length s) (h * 256 + l)) [
  | inl lt ↦ (refused 1 0, in_body k m lt)
  | inr le ↦ (
    entry k (take (h * 256 + l) s) (drop (h * 256 + l) s),
    whole_at k (a ∷ (b ∷ (h ∷ (l ∷ s)))) _ _ (omega arith) m
        (take_rest (a ∷ (b ∷ (h ∷ (l ∷ s)))) 4 ∙ sym (take-append-drop (h * 256 + l) s)) (length-take-le (h * 256 + l) s le),
  )
]

known : (a b : ℕ) → ((k : Kind) × Mark k a b) ⊎ ((k : Kind) → Mark k a b → ⊥)
known a b = elim (cases_eq a 0x54) [
  | inl e ↦ elim (cases_eq b 0x53) [
    | inl f ↦ inl (a_sheet, (e, f))
    | inr g ↦ inr (λ k. elim k as (λ k. Mark k a b → ⊥) [ a_sheet ↦ λ m. g m.1 | a_record ↦ λ m. omega arith ])
  ]
  | inr f ↦ elim (cases_eq a 0x52) [
    | inl e ↦ elim (cases_eq b 0x43) [
      | inl g ↦ inl (a_record, (e, g))
      | inr g ↦ inr (λ k. elim k as (λ k. Mark k a b → ⊥) [ a_sheet ↦ λ m. f m.0 | a_record ↦ λ m. g m.1 ])
    ]
    | inr g ↦ inr (λ k. elim k as (λ k. Mark k a b → ⊥) [ a_sheet ↦ λ m. f m.0 | a_record ↦ λ m. g m.0 ])
  ]
]

some_front : (s : List ℕ) → (x : Answer) × Front s x
some_front [] = (at_end, nothing)
some_front (a ∷ []) = (refused 1 0, in_mark)
some_front (a ∷ (b ∷ s)) = elim (known a b) [
  | inl p ↦ some_sized p.0 a b s p.1
  | inr n ↦ (refused 2 0, no_mark n)
]

pub just_one_front : JustOneFront
just_one_front s = let x = some_front s in (x.0, x.1, λ y p. one_says s y x.0 (says p) (says x.1))

-- What follows an entry is shorter than the input that it was taken off.
pub shorter : {s body rest : List ℕ} {k : Kind} → Front s (entry k body rest) → length rest < length s
shorter (whole k {a} {b} {h} {l} {body} {rest} m n) = simp length-append (omega arith)

pub ruleset fronts = (nothing_at, whole_at, in_mark_at, in_length_at, in_body_at, no_mark_at, just_one_front)
