-- Walking the members of a set, the lowest first.
use Rattle.std.proofs.Common.{◌≡◌, ℕ, ◌^◌, ◌<◌, ◌⊎◌, ◌↔◌, List, length, get_or, set, sym, refl, ap, ◌∙◌, subst, inl, inr, arith, get_or-set_other, get_or-set_same}
use native.Mathlib.Decide.{ℕ_discrete, dec_lt}
use Rattle.std.specs.Prelude.{Some}
use lib.Bits.{bit_or, or_lt}
use Rattle.std.proofs.lemmas.List.{set_past}
use Rattle.rows.specs.Parts.{KeptBelow}
use Rattle.sheet.specs.Standing.{Bit, Walked}
use Rattle.sheet.proofs.Bits.{bit_of_or, bit_one}

abbrev pub Among : List ℕ → ℕ → ℕ → Type 0
Among t m i = (j : ℕ) × Bit j m × Bit i (get_or t j 0)

pub gather_more : (t : List ℕ) (m all whole z rest : ℕ) → Walked m (Some z) rest
    → ((i : ℕ) → (Bit i all ⊎ Among t m i) ↔ Among t whole i)
    → (i : ℕ) → (Bit i (bit_or all (get_or t z 0)) ⊎ Among t rest i) ↔ Among t whole i
gather_more t m all whole z rest l inv i = (forth, back)
  where
    here : Bit z m
    here = (l.2 z).1 (inl refl)

    forth : Bit i (bit_or all (get_or t z 0)) ⊎ Among t rest i → Among t whole i
    forth (inl b) = elim ((bit_of_or i all (get_or t z 0)).0 b) [ inl x ↦ (inv i).0 (inl x) | inr x ↦ (inv i).0 (inr (z, here, x)) ]
    forth (inr a) = (inv i).0 (inr (a.0, (l.2 a.0).1 (inr a.1), a.2))

    step : Bit i all ⊎ Among t m i → Bit i (bit_or all (get_or t z 0)) ⊎ Among t rest i
    step (inl b) = inl ((bit_of_or i all (get_or t z 0)).1 (inl b))
    step (inr a) =
        elim ((l.2 a.0).0 a.1) [
          | inl q ↦ inl ((bit_of_or i all (get_or t z 0)).1 (inr (subst (λ (j : ℕ). Bit i (get_or t j 0)) q a.2)))
          | inr b ↦ inr (a.0, b, a.2)
        ]

    back : Among t whole i → Bit i (bit_or all (get_or t z 0)) ⊎ Among t rest i
    back a = step ((inv i).1 a)

-- Writing to the lowest member, and then to the others.
abbrev pub Grows : List ℕ → List ℕ → ℕ → ℕ → ℕ → Type 0
Grows t t₀ from left whole = (i j : ℕ)
    → (Bit i (get_or t j 0) ⊎ (Bit j left × Bit i from)) ↔ (Bit i (get_or t₀ j 0) ⊎ (Bit j whole × Bit i from))

pub link_more : (t t₀ : List ℕ) (from m whole z rest : ℕ) → length t ≡ 64 → Walked m (Some z) rest → Grows t t₀ from m whole
    → Grows (set t z (bit_or (get_or t z 0) from)) t₀ from rest whole
link_more t t₀ from m whole z rest len l inv i j = go (ℕ_discrete j z)
  where
    v : ℕ
    v = bit_or (get_or t z 0) from

    w : z < length t
    w = let q = l.0 in omega arith

    here : Bit z m
    here = (l.2 z).1 (inl refl)

    go : Dec (j ≡ z) → (Bit i (get_or (set t z v) j 0) ⊎ (Bit j rest × Bit i from)) ↔ (Bit i (get_or t₀ j 0) ⊎ (Bit j whole × Bit i from))
    go (yes q) =
        let e : get_or (set t z v) j 0 ≡ v = ap (λ (k : ℕ). get_or (set t z v) k 0) q ∙ get_or-set_same t z v 0 w in
        let f : get_or t z 0 ≡ get_or t j 0 = ap (λ (k : ℕ). get_or t k 0) (sym q) in (
          λ x. elim x [
            | inl b ↦ elim ((bit_of_or i (get_or t z 0) from).0 (subst (λ (n : ℕ). Bit i n) e b)) [
              | inl y ↦ (inv i j).0 (inl (subst (λ (n : ℕ). Bit i n) f y))
              | inr y ↦ (inv i j).0 (inr (subst (λ (k : ℕ). Bit k m) (sym q) here, y))
            ]
            | inr b ↦ (inv i j).0 (inr ((l.2 j).1 (inr b.0), b.1))
          ],
          λ x. elim ((inv i j).1 x) [
            | inl b ↦ inl (subst (λ (n : ℕ). Bit i n) (sym e) ((bit_of_or i (get_or t z 0) from).1 (inl (subst (λ (n : ℕ). Bit i n) (sym f) b))))
            | inr b ↦ inl (subst (λ (n : ℕ). Bit i n) (sym e) ((bit_of_or i (get_or t z 0) from).1 (inr b.1)))
          ],
        )
    go (no n) =
        let e : get_or (set t z v) j 0 ≡ get_or t j 0 = get_or-set_other t z j v 0 n in (
          λ x. elim x [
            | inl b ↦ (inv i j).0 (inl (subst (λ (k : ℕ). Bit i k) e b))
            | inr b ↦ (inv i j).0 (inr ((l.2 j).1 (inr b.0), b.1))
          ],
          λ x. elim ((inv i j).1 x) [
            | inl b ↦ inl (subst (λ (k : ℕ). Bit i k) (sym e) b)
            | inr b ↦ elim ((l.2 j).0 b.0) [ inl q ↦ absurd (n q) | inr y ↦ inr (y, b.1) ]
          ],
        )

pub keep_more : (t t₀ : List ℕ) (from z : ℕ) → KeptBelow from t₀ t → KeptBelow from t₀ (set t z (bit_or (get_or t z 0) from))
keep_more t t₀ from z f k h g j =
    let old = f k h g in
    let v = bit_or (get_or t z 0) from in
    elim (ℕ_discrete j z) [
      | no n ↦ subst (λ (x : ℕ). x < 2 ^ k) (sym (get_or-set_other t z j v 0 n)) (old j)
      | yes q ↦ elim (dec_lt z (length t)) [
        | yes l ↦ subst (λ (x : ℕ). x < 2 ^ k) (sym (ap (λ (i : ℕ). get_or (set t z v) i 0) q ∙ get_or-set_same t z v 0 l)) (or_lt k (get_or t z 0) from (old z) h)
        | no l ↦ subst (λ (x : ℕ). x < 2 ^ k) (sym (ap (λ (u : List ℕ). get_or u j 0) (set_past t z v (omega arith)))) (old j)
      ]
    ]

-- Picking members by a test.
abbrev pub Picked : List ℕ → ℕ → ℕ → ℕ → ℕ → Type 0
Picked t v all left whole = (i : ℕ) → (Bit i all ⊎ (Bit i left × (get_or t i 0 ≡ v))) ↔ (Bit i whole × (get_or t i 0 ≡ v))

pub pick_more : (t : List ℕ) (v all m whole n z rest : ℕ) → Walked m (Some z) rest → Picked t v all m whole → n ≡ 2 ^ z
    → get_or t z 0 ≡ v → Picked t v (bit_or all n) rest whole
pick_more t v all m whole n z rest l inv q e i = (
  λ x. (inv i).0 (elim x [
    | inl b ↦ elim ((bit_of_or i all n).0 b) [
      | inl c ↦ inl c
      | inr c ↦
          let r : i ≡ z = (bit_one i z).0 (subst (λ (k : ℕ). Bit i k) q c) in
          inr ((l.2 i).1 (inl r), ap (λ (k : ℕ). get_or t k 0) r ∙ e)
    ]
    | inr b ↦ inr ((l.2 i).1 (inr b.0), b.1)
  ]),
  λ x. elim ((inv i).1 x) [
    | inl b ↦ inl ((bit_of_or i all n).1 (inl b))
    | inr b ↦ elim ((l.2 i).0 b.0) [
      | inl r ↦ inl ((bit_of_or i all n).1 (inr (subst (λ (k : ℕ). Bit i k) (sym q) ((bit_one i z).1 r))))
      | inr c ↦ inr (c, b.1)
    ]
  ],
)
