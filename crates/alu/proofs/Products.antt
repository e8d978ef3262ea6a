-- A product of two 32-bit integers fits 64 bits, and so is what the code works out.
use Rattle.std.proofs.Common.{◌≡◌, ◌^◌, ◌≤◌, ℤ, ◌*ℤ◌, nat_abs, arith}
use Rattle.std.specs.Int.RustNames.{FitsSigned}
use Rattle.std.specs.Int.{w64, cast_signed, cast_unsigned}
use Rattle.std.proofs.lemmas.Int.{fits_signed_mul, to_z-of_z}

-- the code's `*`
pub product_code : (a b : ℤ) → FitsSigned w64 a → FitsSigned w64 b → nat_abs a ≤ 2 ^ 31 → nat_abs b ≤ 2 ^ 31 → cast_signed w64 (cast_unsigned w64 (cast_signed w64 (cast_unsigned w64 a) *ℤ cast_signed w64 (cast_unsigned w64 b))) ≡ a *ℤ b
product_code a b fits_a fits_b small_a small_b =
    let fits : FitsSigned w64 (a *ℤ b) = fits_signed_mul w64 a b (2 ^ 31) (2 ^ 31) small_a small_b (omega arith)
    in simp to_z-of_z
