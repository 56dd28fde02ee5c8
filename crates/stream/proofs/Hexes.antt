-- Digits of base 16 stand for the bytes that they were made of.
use Rattle.std.proofs.Common.{◌≡◌, ℕ, ◌+◌, ◌*◌, ◌/◌, ◌%◌, ◌<◌, [], ◌∷◌, refl, ap, ◌∙◌, div-add-mod', arith}
use Rattle.std.proofs.lemmas.Bool.Decides.{nat_tests}
use Rattle.stream.specs.Written.{hex, hex_digit, digit_value, bytes_from_hex, HexStands}

value_of_digit : (d : ℕ) → d < 16 → digit_value (hex_digit d) ≡ d
value_of_digit d l = grind (arith, nat_tests)

byte : (b : ℕ) → b < 256 → 16 * digit_value (hex_digit (b / 16)) + digit_value (hex_digit (b % 16)) ≡ b
byte b l = omega (arith, value_of_digit (b / 16) (omega arith), value_of_digit (b % 16) (omega arith), div-add-mod' b 16)

pub hex_stands : HexStands
hex_stands [] h = refl
hex_stands (b ∷ bs) h =
    ap (λ x. x ∷ bytes_from_hex (hex bs)) (byte b h.0) ∙ ap (λ x. b ∷ x) (hex_stands bs h.1)
