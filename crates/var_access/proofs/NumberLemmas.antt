-- Numbers that are read in decimal and hexadecimal digits.
use Rattle.std.proofs.Common.{◌≡◌, ◌≤◌, ◌<◌, ◌+◌, ◌*◌, ◌^◌, ℕ, zero, suc, true, List, [], ◌∷◌, length, take, get_or, Some, None, Ok, Err, ap, add-one, arith}
use Rattle.std.specs.Prelude.{if◌then◌else◌}
use Rattle.std.specs.Char.{digit_value, is_ascii_hexdigit}
use Rattle.std.specs.List.{list_all}
use Rattle.std.specs.Str.Parse.{digits_value}
use Rattle.std.proofs.Math.Nat.{pow-le-pow_right, pow-succ'}
use Rattle.std.proofs.lemmas.Bool.{and_parts}
use Rattle.std.proofs.lemmas.Bool.Decides.{nat_tests}
use Rattle.std.proofs.lemmas.Int.Digits.{digits_value_more}
use Rattle.plc_base.specs.Decimal.{decimal_up_to, is_decimal}
use Rattle.var_access.specs.Readings.{number_reading}

-- ---- decimal digits

-- a number in its range
pub number_within : (low high rule : ℕ) (word : List ℕ) (n : ℕ) → Some n ≡ decimal_up_to high word → low ≤ n
    → Ok n ≡ number_reading low high rule word
unfolding decimal_up_to number_reading
number_within low high rule word n is least = grind (arith, nat_tests, is)

-- a number below its range
pub number_below : (low high rule : ℕ) (word : List ℕ) (n : ℕ) → Some n ≡ decimal_up_to high word → n < low
    → Err rule ≡ number_reading low high rule word
unfolding decimal_up_to number_reading
number_below low high rule word n is less = grind (arith, nat_tests, is)

-- a number above its range, or no number
pub number_above : (low high rule : ℕ) (word : List ℕ) → None ≡ decimal_up_to high word
    → Err (if is_decimal word then rule else 1) ≡ number_reading low high rule word
unfolding decimal_up_to number_reading
number_above low high rule word is = grind (arith, nat_tests, is)

-- ---- hexadecimal digits, one more of them

-- before the eighth digit
short : (i : ℕ) → i < 8 → 16 ^ i ≤ 268435456
short i within = pow-le-pow_right {n = 16} (omega arith) {i = i} {j = 7} (omega arith)

pub hex_fits : (i v d : ℕ) → i < 8 → v < 16 ^ i → d < 16 → 16 * v + d < 4294967296
hex_fits i v d within below digit = omega (arith, short i within)

pub hex_below : (i v d : ℕ) → v < 16 ^ i → d < 16 → 16 * v + d < 16 ^ (i + 1)
hex_below i v d below digit = omega (arith, ap (λ (n : ℕ). 16 ^ n) (add-one i), pow-succ' 16 i)

pub hex_more : (word : List ℕ) (i v d : ℕ) → i < length word → v ≡ digits_value 16 (take i word) → d ≡ digit_value (get_or word i 0)
    → 16 * v + d ≡ digits_value 16 (take (i + 1) word)
hex_more word i v d within is digit = omega (arith, digits_value_more 16 word i within, is, digit)

-- each of them is one
pub each_digit : (word : List ℕ) (i : ℕ) → i < length word → list_all is_ascii_hexdigit word ≡ true
    → is_ascii_hexdigit (get_or word i 0) ≡ true
each_digit [] i within all = absurd (omega (arith, within))
each_digit (b ∷ t) zero within all = (and_parts (is_ascii_hexdigit b) (list_all is_ascii_hexdigit t) all).0
each_digit (b ∷ t) (suc i) within all =
    each_digit t i (omega (arith, within)) (and_parts (is_ascii_hexdigit b) (list_all is_ascii_hexdigit t) all).1
