-- The digits of a number.
use Rattle.std.proofs.Common.{◌≡◌, ℕ, ◌^◌, ◌<◌, ◌≤◌, length, get_or, decimal, sym, ap, inl, inr, arith, rules, mod-eq_of_lt, length-append}
use Rattle.std.proofs.lemmas.Fmt.{decimal_step, length-decimal-le, decimal_nonempty, first_decimal, decimal_digit, digits_decimal, digits_value-decimal, decimal-digits_value}
use Rattle.std.proofs.lemmas.Str.Parse.{IsNumeralModel, numerals_by_fold}
use Rattle.std.proofs.lemmas.Bool.{cases_lt}
use Rattle.stream.specs.Written.{Digits, number_after, OneNumeral}

pub decimal_short : (n : ℕ) → n < 2 ^ 64 → length (decimal n) ≤ 20
decimal_short n h = length-decimal-le 20 n (omega arith) (omega arith) h

pub ruleset steps = (decimal_step, decimal_digit, length-append, mod-eq_of_lt)

own : IsNumeralModel Digits (number_after 0)
own = numerals_by_fold _ (search rules) number_after (search rules)

one_zero : (n : ℕ) → n < 2 ^ 64 → get_or (decimal n) 0 0 ≡ 48 → length (decimal n) ≡ 1
one_zero n h e = elim (cases_lt 0 n) [
  | inl p ↦ absurd (omega (arith, first_decimal n p h))
  | inr p ↦ ap length (decimal_digit n (omega arith))
]

pub one_numeral : OneNumeral
one_numeral n h = (
  record { digits = digits_decimal own n h; some = decimal_nonempty n h; stands_for = digits_value-decimal own n h; first = one_zero n h },
  λ ds p. let small : number_after 0 ds < 2 ^ 64 = rw p.stands_for h in
      sym (rw p.stands_for at (decimal-digits_value own ds p.digits p.some p.first small)),
)
