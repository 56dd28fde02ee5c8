-- Whether a label is among those that are tried, and that some label is not.
use Rattle.std.specs.Prelude.{◌≡◌, ℕ, zero, suc, ◌+◌, ◌<◌, ◌≤◌, ◌≢◌, ◌⊎◌, List, [], ◌∷◌, length, slice_index, slice_index_or, Contains}
use Rattle.std.proofs.Common.{sym, ◌∙◌, inl, inr, arith}
use Rattle.std.proofs.lemmas.Grind.{get_or_default_zero}
use Rattle.std.proofs.lemmas.Bool.{cases_eq}
use Rattle.loss.proofs.Pigeons.{pigeon}

pub place : (ls : List ℕ) (l : ℕ) → Contains ls l → (k : ℕ) × (k < length ls) × (slice_index ls k ≡ l)
place ls l z = (z.0, z.1, sym (get_or_default_zero ls z.0 l z.1) ∙ z.2)

elsewhere : (x : ℕ) (ls : List ℕ) (l : ℕ) → x ≢ l → (Contains ls l → ⊥) → (k : ℕ) → k < length (x ∷ ls) → slice_index_or (x ∷ ls) k l ≡ l → ⊥
elsewhere x ls l ne u zero h e = ne e
elsewhere x ls l ne u (suc k) h e = u (k, omega arith, e)

-- a label is among them or not
pub found : (ls : List ℕ) (l : ℕ) → Contains ls l ⊎ (Contains ls l → ⊥)
found [] l = inr (λ z. absurd (omega (arith, z.1)))
found (x ∷ ls) l = go (cases_eq x l) (found ls l)
  where
    go : (x ≡ l) ⊎ (x ≢ l) → Contains ls l ⊎ (Contains ls l → ⊥) → Contains (x ∷ ls) l ⊎ (Contains (x ∷ ls) l → ⊥)
    go (inl e) q = inl (0, omega arith, e)
    go (inr ne) (inl z) = inl (suc z.0, omega (arith, z.1), z.2)
    go (inr ne) (inr u) = inr (λ z. elsewhere x ls l ne u z.0 z.1 z.2)

-- there are more labels than are tried
pub all_tried : (ls : List ℕ) → length ls ≤ 256 → ((m : ℕ) → 0 < m → m < 258 → Contains ls m) → ⊥
all_tried ls h all =
    pigeon 256 (λ i k. slice_index ls k ≡ i + 1)
    (λ i le. let z = place ls (i + 1) (all (i + 1) (omega arith) (omega arith)) in (z.0, omega (arith, z.1), z.2))
    (λ i j k hi hj p q. omega arith)
