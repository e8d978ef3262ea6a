-- Binary coded decimal (BCD): four bits for each decimal digit, the lowest digit in the lowest
-- bits. A signed BCD number of n digits has one more digit above them, the sign: 0 for plus, 15
-- for minus.
use Rattle.std.specs.Prelude.{ℕ, zero, suc, ◌+◌, ◌*◌, ◌/◌, ◌%◌, ◌^◌, Bool, true, ◌&&◌, nat_le, nat_lt, ◌==◌, if◌then◌else◌, ℤ, pos, negsuc, neg_ℤ, nat_abs, Option, Some, None, option_and_then}

-- whether each of the lowest n digits of the word is a decimal digit, 0 to 9
abbrev pub are_bcd_digits : ℕ → ℕ → Bool
are_bcd_digits zero word = true
are_bcd_digits (suc n) word = nat_le (word % 16) 9 && are_bcd_digits n (word / 16)

-- the number that the lowest n digits of the word spell
abbrev pub bcd_value : ℕ → ℕ → ℕ
bcd_value zero word = 0
bcd_value (suc n) word = word % 16 + 10 * bcd_value n (word / 16)

-- the word whose lowest n digits are the lowest n decimal digits of the number, and all above 0
abbrev pub bcd_digits : ℕ → ℕ → ℕ
bcd_digits zero number = 0
bcd_digits (suc n) number = number % 10 + 16 * bcd_digits n (number / 10)

-- the number of a BCD word of n digits with no sign; none where a digit is above 9
unfoldable pub unsigned_of_bcd : ℕ → ℕ → Option ℕ
unsigned_of_bcd n word = if are_bcd_digits n word then Some (bcd_value n word) else None

-- the size with the sign of a sign digit; none where that is neither 0 nor 15
abbrev pub with_sign : ℕ → ℕ → Option ℤ
with_sign sign size =
    if sign == 0 then Some (pos size) else if sign == 15 then Some (neg_ℤ (pos size)) else None

-- the number of a signed BCD word of n digits; none where a digit is above 9, or where the sign
-- digit is neither 0 nor 15
unfoldable pub signed_of_bcd : ℕ → ℕ → Option ℤ
signed_of_bcd n word =
    option_and_then (with_sign (word / 2 ^ (4 * n) % 16)) (unsigned_of_bcd n word)

-- the sign digit of a number in BCD: 0 for 0 or more, 15 below 0
abbrev pub sign_digit : ℤ → ℕ
sign_digit (pos size) = 0
sign_digit (negsuc size) = 15

-- the signed BCD word of n digits of a number; none where the number has more than n digits
unfoldable pub bcd_of_signed : ℕ → ℤ → Option ℕ
bcd_of_signed n number =
    if nat_lt (nat_abs number) (10 ^ n)
    then Some (2 ^ (4 * n) * sign_digit number + bcd_digits n (nat_abs number))
    else None
