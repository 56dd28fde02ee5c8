-- Text in an array: its bytes, and 0 in the places after them.
use Rattle.std.specs.Prelude.{◌≡◌, ℕ, ◌+◌, ◌-◌, ◌*◌, ◌/◌, ◌%◌, ◌^◌, ◌<◌, ◌≤◌, cond, List, [], ◌∷◌, ◌++◌, length, replicate, decimal, nat_lt, slice_index_or}
use Rattle.forest.specs.Forest.{Bytes}

-- The text in an array of so many bytes.
abbrev pub padded : ℕ → List ℕ → List ℕ
padded size s = s ++ replicate (size - length s) 0

-- Each byte is a digit, `0` to `9`.
abbrev pub Digits : List ℕ → Type 0
Digits [] = Unit {0}
Digits (d ∷ ds) = (48 ≤ d) × (d ≤ 57) × Digits ds

-- The number that digits stand for, the first counting most, after digits that stand for n.
abbrev pub number_after : ℕ → List ℕ → ℕ
number_after n [] = n
number_after n (d ∷ ds) = number_after (10 * n + (d - 48)) ds

-- The digits are the number's, with no 0 in front unless that is all.
pub record Numeral (n : ℕ) (ds : List ℕ) : Type 0 where
  pub digits : Digits ds
  pub some : 0 < length ds
  pub stands_for : number_after 0 ds ≡ n
  pub first : slice_index_or ds 0 0 ≡ 48 → length ds ≡ 1

-- Every number of 64 bits has just one such list of digits, `decimal` of it.
abbrev pub OneNumeral : Type 0
OneNumeral = (n : ℕ) → n < 2 ^ 64 → Numeral n (decimal n) × ((ds : List ℕ) → Numeral n ds → ds ≡ decimal n)

-- A digit of base 16: `0` to `9`, then `A` to `F`.
abbrev pub hex_digit : ℕ → ℕ
hex_digit d = cond (nat_lt d 10) (48 + d) (55 + d)

-- Bytes as two digits each.
abbrev pub hex : List ℕ → List ℕ
hex [] = []
hex (b ∷ bs) = hex_digit (b / 16) ∷ (hex_digit (b % 16) ∷ hex bs)

-- What a digit of base 16 stands for, and the bytes that digits stand for, two to a byte.
abbrev pub digit_value : ℕ → ℕ
digit_value c = cond (nat_lt c 65) (c - 48) (c - 55)

abbrev pub bytes_from_hex : List ℕ → List ℕ
bytes_from_hex [] = []
bytes_from_hex (a ∷ []) = []
bytes_from_hex (a ∷ (b ∷ ds)) = (16 * digit_value a + digit_value b) ∷ bytes_from_hex ds

-- The digits of bytes stand for just these bytes.
abbrev pub HexStands : Type 0
HexStands = (bs : List ℕ) → Bytes bs → bytes_from_hex (hex bs) ≡ bs
