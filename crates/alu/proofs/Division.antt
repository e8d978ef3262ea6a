-- Quotient and remainder of integers as the code works them out in 64 bits.
use Rattle.std.proofs.Common.{◌≡◌, zero, suc, ◌^◌, ◌≤◌, false, ℤ, pos, negsuc, nat_abs, refl, ◌∙◌, arith}
use Rattle.std.specs.Int.RustNames.{int_div, int_rem, FitsSigned}
use Rattle.std.specs.Int.{w64, cast_signed, cast_unsigned}
use Rattle.std.proofs.lemmas.Int.{quot-rem, quot_is, rem_is, fits_signed_from_abs, ints}
use Rattle.alu.specs.Division.{quotient, remainder, is_zero}

quotient_lem : (dividend divisor : ℤ) → int_div dividend divisor ≡ quotient dividend divisor
quotient_lem (pos a) (pos b) = refl
quotient_lem (pos a) (negsuc b) = refl
quotient_lem (negsuc a) (pos b) = refl
quotient_lem (negsuc a) (negsuc b) = refl

remainder_lem : (dividend divisor : ℤ) → int_rem dividend divisor ≡ remainder dividend divisor
remainder_lem a b = rw (← quotient_lem a b) (omega (arith, ints, quot-rem a b))

pub is_zero_lem : (z : ℤ) → ((z ≡ pos 0) → ⊥) → is_zero z ≡ false
is_zero_lem (pos zero) h = absurd (h refl)
is_zero_lem (pos (suc n)) h = grind arith
is_zero_lem (negsuc n) h = grind arith

-- the code's `%`
pub remainder_code : (a d : ℤ) → FitsSigned w64 a → FitsSigned w64 d → cast_signed w64 (cast_unsigned w64 (int_rem (cast_signed w64 (cast_unsigned w64 a)) (cast_signed w64 (cast_unsigned w64 d)))) ≡ remainder a d
remainder_code a d fits_a fits_d = rem_is w64 a d fits_a fits_d ∙ remainder_lem a d

abs-quot : (a d : ℤ) → nat_abs (int_div a d) ≤ nat_abs a
abs-quot (pos a) (pos b) = grind arith
abs-quot (pos a) (negsuc b) = grind arith
abs-quot (negsuc a) (pos b) = grind arith
abs-quot (negsuc a) (negsuc b) = grind arith

-- the code's `/`
pub quotient_code : (a d : ℤ) → nat_abs a ≤ 2 ^ 31 → FitsSigned w64 a → FitsSigned w64 d → cast_signed w64 (cast_unsigned w64 (int_div (cast_signed w64 (cast_unsigned w64 a)) (cast_signed w64 (cast_unsigned w64 d)))) ≡ quotient a d
quotient_code a d small fits_a fits_d =
    quot_is w64 a d fits_a fits_d (fits_signed_from_abs w64 _ (omega (arith, abs-quot a d))) ∙ quotient_lem a d
