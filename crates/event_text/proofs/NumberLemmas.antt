-- Numbers as they are written, and read again.
use Rattle.std.proofs.Common.{◌≡◌, ◌≤◌, ◌<◌, ◌+◌, ◌-◌, ◌*◌, ◌/◌, ◌%◌, ◌^◌, ℕ, zero, suc, true, eqb, List, [], ◌∷◌, ◌++◌, length, Ok, refl, ◌∙◌, arith, decimal, nat_le, fold}
use Rattle.std.specs.Char.{is_ascii_digit, is_ascii_hexdigit, digit_value}
use Rattle.std.specs.Str.Parse.{digits_value}
use Rattle.std.proofs.lemmas.Fmt.{decimal_by_steps}
use Rattle.std.proofs.lemmas.Int.Digits.{digits_value_push}
use Rattle.std.proofs.lemmas.Bool.Decides.{nat_tests}
use Rattle.std.proofs.lemmas.Grind.{common_steps}
use Rattle.plc_base.specs.Decimal.{decimal_value, is_decimal}
use Rattle.var_access.specs.Readings.{number_reading, address_number, hex_of, is_hex}
use Rattle.monitor.specs.LineText.{hex_text, hex_digit}
use Rattle.event_text.proofs.ByteLemmas.{Each, each-append, each-list_all}

-- a text of digits, not empty, with its value
pub record IsNumeral (n : ℕ) (text : List ℕ) : Type 0 where
  pub digits : Each is_ascii_digit text
  pub some : 0 < length text
  pub value : decimal_value text ≡ n

value-push : (ds : List ℕ) (c : ℕ) → decimal_value (ds ++ c ∷ []) ≡ 10 * decimal_value ds + (c - 48)
unfolding decimal_value
value-push ds c = from 0 ds where
  from : (a : ℕ) (ds : List ℕ) → fold (λ n digit. 10 * n + (digit - 48)) a (ds ++ c ∷ []) ≡ 10 * fold (λ n digit. 10 * n + (digit - 48)) a ds + (c - 48)
  from a [] = refl
  from a (d ∷ ds) = from (10 * a + (d - 48)) ds

value-one : (c : ℕ) → decimal_value (c ∷ []) ≡ c - 48
unfolding decimal_value
value-one c = omega arith

digit-is : (d : ℕ) → d < 10 → is_ascii_digit (48 + d) ≡ true
digit-is d small = grind (arith, nat_tests)

pub numeral : (n : ℕ) → n < 2 ^ 64 → IsNumeral n (decimal n)
numeral n small = decimal_by_steps IsNumeral one more n small where
  one : (n : ℕ) → n < 10 → IsNumeral n ((48 + n) ∷ [])
  one n h = record { digits = (digit-is n h, tt); some = omega arith; value = omega (arith, value-one (48 + n)) }

  more : (n : ℕ) (ds : List ℕ) → 10 ≤ n → IsNumeral (n / 10) ds → IsNumeral n (ds ++ (48 + n % 10) ∷ [])
  more n ds h k = record {
    digits = each-append is_ascii_digit ds _ k.digits (digit-is (n % 10) (omega arith), tt);
    some = grind (arith, common_steps);
    value = omega (arith, value-push ds (48 + n % 10), k.value);
  }

decimal-is : (text : List ℕ) → 0 < length text → Each is_ascii_digit text → is_decimal text ≡ true
decimal-is [] some h = absurd (omega arith)
decimal-is (b ∷ t) some h = each-list_all is_ascii_digit (b ∷ t) h

-- a number that is written is read, within its bounds
pub number_read : (low high rule n : ℕ) → n < 2 ^ 64 → low ≤ n → n ≤ high → number_reading low high rule (decimal n) ≡ Ok n
unfolding number_reading
number_read low high rule n small least most =
    let d : IsNumeral n (decimal n) = numeral n small in
    let is : is_decimal (decimal n) ≡ true = decimal-is (decimal n) d.some d.digits in
    let a : nat_le low n ≡ true = grind (arith, nat_tests) in
    let b : nat_le n high ≡ true = grind (arith, nat_tests) in
    rw (is, d.value, a, b) refl

pub number-of : (n : ℕ) → n < 65536 → address_number (decimal n) ≡ Ok n
number-of n small = number_read 0 65535 2 n (omega arith) (omega arith) (omega arith)

-- ---- hexadecimal

hex-digit-is : (d : ℕ) → d < 16 → is_ascii_hexdigit (hex_digit d) ≡ true
hex-digit-is d small = grind (arith, nat_tests)

hex-digit-value : (d : ℕ) → d < 16 → digit_value (hex_digit d) ≡ d
hex-digit-value d small = grind (arith, nat_tests)

pub record IsHex (digits n : ℕ) (text : List ℕ) : Type 0 where
  pub each : Each is_ascii_hexdigit text
  pub len : length text ≡ digits
  pub value : digits_value 16 text ≡ n

pub hex-text : (digits n : ℕ) → n < 16 ^ digits → IsHex digits n (hex_text digits n)
hex-text zero n small = record { each = tt; len = refl; value = omega arith }
hex-text (suc digits) n small =
    let k : IsHex digits (n / 16) (hex_text digits (n / 16)) = hex-text digits (n / 16) (omega (arith, pow digits)) in
    record {
      each = each-append is_ascii_hexdigit _ _ k.each (hex-digit-is (n % 16) (omega arith), tt);
      len = grind (arith, common_steps, k.len);
      value = digits_value_push 16 (hex_text digits (n / 16)) (hex_digit (n % 16)) ∙ omega (arith, k.value, hex-digit-value (n % 16) (omega arith));
    } where
      pow : (k : ℕ) → 16 ^ suc k ≡ 16 * 16 ^ k
      pow k = omega arith

hex-is : (text : List ℕ) → 0 < length text → Each is_ascii_hexdigit text → is_hex text ≡ true
hex-is [] some h = absurd (omega arith)
hex-is (b ∷ t) some h = each-list_all is_ascii_hexdigit (b ∷ t) h

pub hex_read : (digits n : ℕ) → 0 < digits → n < 16 ^ digits → hex_of digits (hex_text digits n) ≡ Ok n
unfolding hex_of
hex_read digits n some small =
    let k : IsHex digits n (hex_text digits n) = hex-text digits n small in
    let is : is_hex (hex_text digits n) ≡ true = hex-is _ (omega (arith, k.len)) k.each in
    let len : eqb (length (hex_text digits n)) digits ≡ true = grind (arith, nat_tests, k.len) in
    rw (is, len, k.value) refl
