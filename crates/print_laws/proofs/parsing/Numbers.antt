-- Numbers that are printed are read.
use Rattle.std.proofs.Common.{◌≡◌, ◌≤◌, ◌<◌, ◌+◌, ◌-◌, ◌*◌, ◌/◌, ◌%◌, ◌^◌, ℕ, suc, true, List, [], ◌∷◌, ◌++◌, length, Some, refl, arith, decimal, nat_le, fold, ap, pos, negsuc, Bool, false}
use Rattle.std.specs.Prelude.{nat_lt, ◌-ℤ◌, if◌then◌else◌}
use Rattle.std.specs.Char.{is_ascii_digit}
use Rattle.std.specs.List.{list_all}
use Rattle.std.proofs.lemmas.Fmt.{decimal_by_steps}
use Rattle.std.proofs.lemmas.Bool.{and_parts}
use Rattle.std.proofs.lemmas.Bool.Decides.{nat_tests}
use Rattle.std.proofs.lemmas.Grind.{common_steps}
use Rattle.plc_base.specs.Decimal.{decimal_value, decimal_up_to, is_decimal}

-- a text of digits, not empty, with its value
pub record IsNumeral (n : ℕ) (text : List ℕ) : Type 0 where
  pub digits : list_all is_ascii_digit text ≡ true
  pub some : 0 < length text
  pub value : decimal_value text ≡ n

value-push : (ds : List ℕ) (c : ℕ) → decimal_value (ds ++ c ∷ []) ≡ 10 * decimal_value ds + (c - 48)
unfolding decimal_value
value-push ds c = from 0 ds where
  from : (a : ℕ) (ds : List ℕ) → fold (λ n digit. 10 * n + (digit - 48)) a (ds ++ c ∷ []) ≡ 10 * fold (λ n digit. 10 * n + (digit - 48)) a ds + (c - 48)
  from a [] = refl
  from a (d ∷ ds) = from (10 * a + (d - 48)) ds

value-one : (c : ℕ) → decimal_value (c ∷ []) ≡ c - 48
unfolding decimal_value
value-one c = omega arith

digit-is : (d : ℕ) → d < 10 → is_ascii_digit (48 + d) ≡ true
digit-is d small = grind (arith, nat_tests)

digits-push : (ds : List ℕ) (c : ℕ) → list_all is_ascii_digit ds ≡ true → is_ascii_digit c ≡ true → list_all is_ascii_digit (ds ++ c ∷ []) ≡ true
digits-push [] c a b = rw b refl
digits-push (d ∷ ds) c a b =
    let parts : (is_ascii_digit d ≡ true) × (list_all is_ascii_digit ds ≡ true) = and_parts (is_ascii_digit d) (list_all is_ascii_digit ds) a in
    rw (parts.0, digits-push ds c parts.1 b) refl

pub numeral : (n : ℕ) → n < 2 ^ 64 → IsNumeral n (decimal n)
numeral n small = decimal_by_steps IsNumeral one more n small where
  one : (n : ℕ) → n < 10 → IsNumeral n ((48 + n) ∷ [])
  one n h = record { digits = rw (digit-is n h) refl; some = omega arith; value = omega (arith, value-one (48 + n)) }

  more : (n : ℕ) (ds : List ℕ) → 10 ≤ n → IsNumeral (n / 10) ds → IsNumeral n (ds ++ (48 + n % 10) ∷ [])
  more n ds h k = record {
    digits = digits-push ds _ k.digits (digit-is (n % 10) (omega arith));
    some = grind (arith, common_steps);
    value = omega (arith, value-push ds (48 + n % 10), k.value);
  }

decimal-is : (text : List ℕ) → 0 < length text → list_all is_ascii_digit text ≡ true → is_decimal text ≡ true
decimal-is [] some h = absurd (omega arith)
decimal-is (b ∷ t) some h = h

-- a number that is printed is read, up to a greatest one
pub number_read : (most n : ℕ) → n ≤ most → most < 2 ^ 64 → decimal_up_to most (decimal n) ≡ Some n
unfolding decimal_up_to
number_read most n fits small =
    let d : IsNumeral n (decimal n) = numeral n (omega arith) in
    let is : is_decimal (decimal n) ≡ true = decimal-is (decimal n) d.some d.digits in
    let a : nat_le n most ≡ true = grind (arith, nat_tests) in
    rw (is, d.value, a) refl

-- a number below 0 by its distance from it
pub minus : (n : ℕ) → pos 0 -ℤ pos (suc n) ≡ negsuc n
minus n = by (nat_lt 0 (suc n)) (suc n - 1) (grind (arith, nat_tests)) (omega arith)
  where
    by : (b : Bool) (m : ℕ) → b ≡ true → m ≡ n → (if b then negsuc m else pos (0 - suc n)) ≡ negsuc n
    by true m is e = ap negsuc e
    by false m is e = absurd cc
