-- Bits of a number as members of a set: laws of `|`, `&`, `1 << i` and of walking the members by trailing zeros.
use Rattle.std.proofs.Common.{◌≡◌, ℕ, zero, suc, ◌-◌, ◌/◌, ◌%◌, ◌^◌, ◌<◌, ◌⊎◌, ◌↔◌, sym, refl, ap, ◌∙◌, inl, inr, pow-suc, div-add-mod', arith}
use native.Mathlib.Decide.{ℕ_discrete, dec_lt}
use lib.Bits.{bit_and, bit_or, and_shr, and_mod, and_self, and_zero_r}
use lib.Count.{count_trailing_zeros, under}
use Rattle.std.specs.Int.{bit_at}
use Rattle.std.proofs.lemmas.Nat.Bits.{bit_at-zero, bit_at-suc, bit_at_and, bit_at_or, bit_at-pow_same, bit_at-pow_other, bit_at_above, same_from_bits_below}
use Rattle.sheet.specs.Standing.{Bit}

-- A digit is set or not.
pub bit_or_not : (i m : ℕ) → Bit i m ⊎ (Bit i m → ⊥)
bit_or_not i m = elim (ℕ_discrete (bit_at m i) 1) [ yes q ↦ inl q | no q ↦ inr q ]

pub no_bit : (i : ℕ) → Bit i 0 → ⊥
no_bit i h = omega (arith, bit_at-zero i)

pub bit_of_or : (i a b : ℕ) → Bit i (bit_or a b) ↔ (Bit i a ⊎ Bit i b)
bit_of_or i a b = (
  λ h. elim (bit_or_not i a) [ inl z ↦ inl z | inr n ↦ elim (bit_or_not i b) [ inl z ↦ inr z | inr m ↦ absurd (omega (arith, bit_at_or a b i)) ] ],
  λ h. elim h [ inl z ↦ omega (arith, bit_at_or a b i) | inr z ↦ omega (arith, bit_at_or a b i) ],
)

pub bit_of_and : (i a b : ℕ) → Bit i (bit_and a b) ↔ (Bit i a × Bit i b)
bit_of_and i a b = (λ h. (omega (arith, bit_at_and a b i), omega (arith, bit_at_and a b i)), λ h. omega (arith, bit_at_and a b i))

-- `1 << j` holds j alone.
pub bit_one : (i j : ℕ) → Bit i (2 ^ j) ↔ (i ≡ j)
bit_one i j = (
  λ h. elim (ℕ_discrete i j) [ yes q ↦ q | no n ↦ absurd (omega (arith, bit_at-pow_other j i n)) ],
  λ q. rw q (bit_at-pow_same j),
)

-- No bit stands at or above a bound.
pub bit_below : (k i m : ℕ) → m < 2 ^ k → Bit i m → i < k
bit_below k i m h b = elim (dec_lt i k) [ yes l ↦ l | no n ↦ absurd (omega (arith, bit_at_above m k i h (omega arith))) ]

-- Two numbers of the same bits are equal.
pub same_bits : (k a b : ℕ) → a < 2 ^ k → b < 2 ^ k → ((i : ℕ) → i < k → Bit i a ↔ Bit i b) → a ≡ b
same_bits k a b p q h = same_from_bits_below k a b p q (λ i l. digit i (h i l))
  where
    digit : (i : ℕ) → Bit i a ↔ Bit i b → bit_at a i ≡ bit_at b i
    digit i f = elim (bit_or_not i a) [
      | inl z ↦ z ∙ sym (f.0 z)
      | inr n ↦ elim (bit_or_not i b) [ inl z ↦ absurd (n (f.1 z)) | inr m ↦ omega arith ]
    ]

-- Taking the lowest digit away, at an even number and at an odd one.
lower_even : (m : ℕ) → 0 < m → m % 2 ≡ 0 → (bit_and m (m - 1) / 2 ≡ bit_and (m / 2) (m / 2 - 1)) × (bit_and m (m - 1) % 2 ≡ 0)
lower_even m p e =
    let q : (m - 1) / 2 ≡ m / 2 - 1 = omega arith in
    (and_shr m (m - 1) 1 ∙ ap (bit_and (m / 2)) q, and_mod m (m - 1) 1 ∙ ap (λ d. bit_and d ((m - 1) % 2)) e)

lower_odd : (m : ℕ) → m % 2 ≡ 1 → (bit_and m (m - 1) / 2 ≡ m / 2) × (bit_and m (m - 1) % 2 ≡ 0)
lower_odd m e =
    let q : (m - 1) / 2 ≡ m / 2 = omega arith in
    let r : (m - 1) % 2 ≡ 0 = omega arith in (
      and_shr m (m - 1) 1 ∙ ap (bit_and (m / 2)) q ∙ and_self (m / 2),
      and_mod m (m - 1) 1 ∙ ap (bit_and (m % 2)) r ∙ and_zero_r (m % 2),
    )

-- The members of m are its lowest, which the trailing zeros tell, and those of `m & (m - 1)`.
pub record Lowest (k m : ℕ) : Type 0 where
  pub within : count_trailing_zeros k m < k
  pub members : (i : ℕ) → Bit i m ↔ ((i ≡ count_trailing_zeros k m) ⊎ Bit i (bit_and m (m - 1)))
  pub fewer : bit_and m (m - 1) < m

module _ (m n : ℕ) (hi lo : ℕ) (up : n / 2 ≡ hi) (down : n % 2 ≡ lo) where
  lift : (i : ℕ) → Bit (suc i) n ↔ Bit i hi
  lift i =
      let e : bit_at n (suc i) ≡ bit_at hi i = bit_at-suc n i ∙ ap (λ (x : ℕ). bit_at x i) up in
      (λ h. sym e ∙ h, λ h. e ∙ h)

pub lowest : (k m : ℕ) → 0 < m → m < 2 ^ k → Lowest k m
unfolding count_trailing_zeros
lowest zero m p h = absurd (omega arith)
lowest (suc k) m p h = let r = go (m % 2) refl (λ a b. lowest k (m / 2) a b) in record { within = r.within; members = r.members; fewer = r.fewer }
  where
    fits : m / 2 < 2 ^ k
    fits = omega (arith, pow-suc 2 k)

    go : (d : ℕ) → m % 2 ≡ d → (0 < m / 2 → m / 2 < 2 ^ k → Lowest k (m / 2))
        → record {
          within : under d (count_trailing_zeros k (m / 2)) < suc k;
          members : (i : ℕ) → Bit i m ↔ ((i ≡ under d (count_trailing_zeros k (m / 2))) ⊎ Bit i (bit_and m (m - 1)));
          fewer : bit_and m (m - 1) < m;
        }
    go zero e ih =
        let l = lower_even m p e in
        let r = ih (omega arith) fits in
        record {
          within = let w = r.within in omega arith;
          members = elim [
            | zero ↦ (λ b. absurd (omega arith), λ b. elim b [ inl z ↦ absurd (omega arith) | inr z ↦ absurd (omega (arith, l.1)) ])
            | suc i ↦
                let up = lift m m (m / 2) (m % 2) refl refl i in
                let dn = lift m (bit_and m (m - 1)) (bit_and (m / 2) (m / 2 - 1)) 0 l.0 l.1 i in (
                  λ b. elim ((r.members i).0 (up.0 b)) [ inl z ↦ inl (ap suc z) | inr z ↦ inr (dn.1 z) ],
                  λ b. elim b [ inl z ↦ up.1 ((r.members i).1 (inl (omega arith))) | inr z ↦ up.1 ((r.members i).1 (inr (dn.0 z))) ],
                )
          ];
          fewer = let w = r.fewer in omega (arith, l.0, l.1, div-add-mod' m 2, div-add-mod' (bit_and m (m - 1)) 2);
        }
    go (suc zero) e ih =
        let l = lower_odd m e in
        record {
          within = omega arith;
          members = elim [
            | zero ↦ (λ b. inl refl, λ b. omega arith)
            | suc i ↦
                let up = lift m m (m / 2) (m % 2) refl refl i in
                let dn = lift m (bit_and m (m - 1)) (m / 2) 0 l.0 l.1 i in
                (λ b. inr (dn.1 (up.0 b)), λ b. elim b [ inl z ↦ absurd (omega arith) | inr z ↦ up.1 (dn.0 z) ])
          ];
          fewer = omega (arith, l.0, l.1, div-add-mod' m 2, div-add-mod' (bit_and m (m - 1)) 2);
        }
    go (suc (suc d)) e ih = absurd (omega arith)
