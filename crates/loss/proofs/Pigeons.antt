-- Into fewer holes, two of the pigeons go together.
use Rattle.std.proofs.Common.{◌≡◌, ℕ, zero, suc, ◌<◌, ◌≤◌, ◌≢◌, ◌⊎◌, refl, subst, inl, inr, arith}
use Rattle.std.proofs.lemmas.Bool.{cases_eq}

-- who was in hole n goes to hole a
abbrev Moved : (ℕ → ℕ → Type 0) → ℕ → ℕ → ℕ → ℕ → Type 0
Moved R n a i k = R i k ⊎ ((k ≡ a) × R i n)

module _ (n : ℕ) (R : ℕ → ℕ → Type 0) (one : (i j k : ℕ) → i ≤ suc n → j ≤ suc n → R i k → R j k → i ≡ j) (a : ℕ) (low : a < suc n) (last : R (suc n) a) where
  moved : (i : ℕ) → i ≤ n → (k : ℕ) → k < suc n → R i k → (k ≡ n) ⊎ (k ≢ n) → (k : ℕ) × (k < n) × Moved R n a i k
  moved i h k lt r (inl e) = go (cases_eq a n)
    where
      go : (a ≡ n) ⊎ (a ≢ n) → (k : ℕ) × (k < n) × Moved R n a i k
      go (inl p) = absurd (omega (arith, one i (suc n) n (omega arith) (omega arith) (subst (R i) e r) (subst (R (suc n)) p last)))
      go (inr p) = (a, omega arith, inr (refl, subst (R i) e r))
  moved i h k lt r (inr e) = (k, omega arith, inl r)

  apart : (i j k : ℕ) → i ≤ n → j ≤ n → Moved R n a i k → Moved R n a j k → i ≡ j
  apart i j k hi hj (inl p) (inl q) = one i j k (omega arith) (omega arith) p q
  apart i j k hi hj (inl p) (inr q) = absurd (omega (arith, one i (suc n) a (omega arith) (omega arith) (subst (R i) q.0 p) last))
  apart i j k hi hj (inr p) (inl q) = absurd (omega (arith, one j (suc n) a (omega arith) (omega arith) (subst (R j) p.0 q) last))
  apart i j k hi hj (inr p) (inr q) = one i j n (omega arith) (omega arith) p.1 q.1

pub pigeon : (n : ℕ) (R : ℕ → ℕ → Type 0) → ((i : ℕ) → i ≤ n → (k : ℕ) × (k < n) × R i k)
    → ((i j k : ℕ) → i ≤ n → j ≤ n → R i k → R j k → i ≡ j) → ⊥
pigeon zero R total one = omega (arith, (total 0 (omega arith)).1)
pigeon (suc n) R total one =
    let last = total (suc n) (omega arith) in
    pigeon n (Moved R n last.0)
    (λ i h. let z = total i (omega arith) in moved n R one last.0 last.1 last.2 i h z.0 z.1 z.2 (cases_eq z.0 n))
    (apart n R one last.0 last.1 last.2)
