-- What is added to a buffer's text, in a row; and the zeros after it.
use Rattle.std.proofs.Common.{◌≡◌, ℕ, ◌+◌, ◌-◌, ◌*◌, ◌/◌, ◌%◌, ◌≤◌, Bool, true, false, List, [], ◌∷◌, ◌++◌, length, take, drop, replicate, sym, refl, inl, inr, ap, ◌∙◌, append_assoc, arith, length-append, drop-drop, take-append-drop}
use Rattle.std.proofs.lemmas.List.{append-nil, length-take-le, drop-replicate, replicate-append-replicate}
use Rattle.std.proofs.lemmas.Bool.Decides.{nat_tests}
use Rattle.stream.specs.Line.{loss, loss_if, shown}
use Rattle.stream.specs.Written.{hex, hex_digit}
use Rattle.stream.specs.Writing.{Adds, text_of}
use Rattle.stream.specs.declared.buffer.LineBuffer.{LineBuffer}

pub adds_more : {u v w : LineBuffer} {s r : List ℕ} → Adds u s v → Adds v r w → Adds u (s ++ r) w
adds_more {u} {v} {w} {s} {r} a b = record {
  counts = simp length-append (omega arith);
  text = b.text ∙ ap (λ z. z ++ r) a.text ∙ append_assoc (text_of u) s r;
}

-- Further on there are zeros too.
pub blank_past : (size : ℕ) (line : List ℕ) (n k m : ℕ) → m ≡ n + k → drop n line ≡ replicate (size - n) 0 → drop m line ≡ replicate (size - m) 0
blank_past size line n k m e b =
    let d : size - n - k ≡ size - (n + k) = omega arith in
    rw (e, sym (drop-drop k n line), b, drop-replicate {X = ℕ} k (size - n) 0, d) refl

-- Zeros in place of the text, and those after it.
pub cleared : (size : ℕ) (line ys : List ℕ) (n k : ℕ) → k ≡ n → n ≤ size → ys ≡ replicate n 0 → drop n line ≡ replicate (size - n) 0 → ys ++ drop k line ≡ replicate size 0
cleared size line ys n k e h y b =
    let m : n + (size - n) ≡ size = omega arith in
    rw (e, y, b) (replicate-append-replicate n (size - n) 0 ∙ ap (λ z. replicate z 0) m)

pub hex_append : (xs ys : List ℕ) → hex (xs ++ ys) ≡ hex xs ++ hex ys
hex_append [] ys = refl
hex_append (x ∷ xs) ys = ap (λ z. hex_digit (x / 16) ∷ (hex_digit (x % 16) ∷ z)) (hex_append xs ys)

pub length_hex : (xs : List ℕ) → length (hex xs) ≡ 2 * length xs
length_hex [] = refl
length_hex (x ∷ xs) = let e = length_hex xs in omega arith

pub ruleset hex_lengths = (length_hex, length-take-le)

-- What is shown of a loss, at two digits a byte.
short_bytes : (bs : List ℕ) → length (shown (loss bs)) ≤ 8192
short_bytes [] = omega arith
short_bytes (b ∷ bs) = grind (arith, nat_tests, length_hex)

pub short_loss : (seen : Bool) (size : ℕ) (show : List ℕ) → length (shown (loss_if seen size show)) ≤ 8192
short_loss true size show = short_bytes (take size show)
short_loss false size show = omega arith
