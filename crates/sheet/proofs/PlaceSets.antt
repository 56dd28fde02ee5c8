-- Sets of places written as numbers, put together.
use Rattle.std.proofs.Common.{◌≡◌, ℕ, ◌^◌, ◌⊎◌, ◌↔◌, take, sym, ap, ◌∙◌, subst, inl, inr, pow_pos}
use lib.Bits.{bit_and, bit_or, or_lt, and_lt}
use lib.Pow.{pow-lt}
use Rattle.rows.specs.Sheet.{Sheet, Numbered, places}
use Rattle.sheet.specs.Standing.{Bit, SetOf}
use Rattle.sheet.proofs.Bits.{no_bit, bit_of_or, bit_of_and, bit_one, bit_below, same_bits}
use Rattle.rows.proofs.Numbers.{numbered_once, numbered_within, numbered_all}

pub set_same : {s : Sheet} {m : ℕ} {P Q : ℕ → Type 0} → ((e : ℕ) → P e ↔ Q e) → SetOf s m P → SetOf s m Q
set_same f x =
    record { bits = λ i e n. (λ b. (f e).0 ((x.bits i e n).0 b), λ q. (x.bits i e n).1 ((f e).1 q)); no_more = x.no_more }

pub set_none : {s : Sheet} {P : ℕ → Type 0} → ((e : ℕ) → P e → ⊥) → SetOf s 0 P
set_none {s} f = record { bits = λ i e n. (λ b. absurd (no_bit i b), λ p. absurd (f e p)); no_more = pow_pos (places s) }

pub set_or : {s : Sheet} {a b : ℕ} {P Q : ℕ → Type 0} → SetOf s a P → SetOf s b Q → SetOf s (bit_or a b) (λ e. P e ⊎ Q e)
set_or {s} {a} {b} x y =
    record {
      bits = λ i e n. (
        λ h. elim ((bit_of_or i a b).0 h) [ inl z ↦ inl ((x.bits i e n).0 z) | inr z ↦ inr ((y.bits i e n).0 z) ],
        λ h. (bit_of_or i a b).1 (elim h [ inl z ↦ inl ((x.bits i e n).1 z) | inr z ↦ inr ((y.bits i e n).1 z) ]),
      );
      no_more = or_lt (places s) a b x.no_more y.no_more;
    }

pub set_and : {s : Sheet} {a b : ℕ} {P Q : ℕ → Type 0} → SetOf s a P → SetOf s b Q → SetOf s (bit_and a b) (λ e. P e × Q e)
set_and {s} {a} {b} x y =
    record {
      bits = λ i e n. (
        λ h. let z = (bit_of_and i a b).0 h in ((x.bits i e n).0 z.0, (y.bits i e n).0 z.1),
        λ h. (bit_of_and i a b).1 ((x.bits i e n).1 h.0, (y.bits i e n).1 h.1),
      );
      no_more = and_lt (places s) a b x.no_more y.no_more;
    }

pub set_one : {s : Sheet} {i e₀ : ℕ} → Numbered s i e₀ → SetOf s (2 ^ i) (λ e. e ≡ e₀)
set_one {s} {i} {e₀} n₀ =
    record {
      bits = λ j e n. (
        λ h. let q = (bit_one j i).0 h in numbered_once (subst (λ (k : ℕ). Numbered s k e) q n) n₀,
        λ h. (bit_one j i).1 (sym n.number ∙ ap (λ (w : ℕ). places (take w s)) h ∙ n₀.number),
      );
      no_more = pow-lt (numbered_within n₀);
    }

-- A set is written one way.
pub set_unique : {s : Sheet} {a b : ℕ} {P : ℕ → Type 0} → SetOf s a P → SetOf s b P → a ≡ b
set_unique {s} {a} {b} x y =
    same_bits (places s) a b x.no_more y.no_more
    (λ i h. let n = numbered_all s i h in (
      λ p. (y.bits i n.0 n.1).1 ((x.bits i n.0 n.1).0 p),
      λ p. (x.bits i n.0 n.1).1 ((y.bits i n.0 n.1).0 p),
    ))

-- Each member has its row.
pub set_member : {s : Sheet} {m : ℕ} {P : ℕ → Type 0} → SetOf s m P → (i : ℕ) → Bit i m → (e : ℕ) × Numbered s i e × P e
set_member {s} {m} x i b =
    let n = numbered_all s i (bit_below (places s) i m x.no_more b) in (n.0, n.1, (x.bits i n.0 n.1).0 b)
