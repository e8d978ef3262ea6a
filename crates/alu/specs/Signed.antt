-- Integers in two's complement, over their width w in bits: INT has 16 bits, DINT 32.
use Rattle.std.specs.Prelude.{ℕ, ◌-◌, ◌%◌, ◌^◌, Bool, true, false, ◌&&◌, nat_lt, if◌then◌else◌, ℤ, pos, negsuc, ◌-ℤ◌, neg_ℤ, unsigned_abs, int_lt, int_le}
use Rattle.std.specs.Int.{int_rem_euclid}
use Rattle.alu.specs.declared.formats.Format.{Format}
use Rattle.alu.specs.declared.formats.Format.TheVariants.{Int, Dint}

-- the width of a format
abbrev pub format_width : Format → ℕ
format_width Int = 16
format_width Dint = 32

-- the integer that w bits stand for: the highest bit weighs - 2 ^ (w - 1)
abbrev pub from_bits : (w bits : ℕ) → ℤ
from_bits w bits = if nat_lt bits (2 ^ (w - 1)) then pos bits else pos bits -ℤ pos (2 ^ w)

-- whether an integer is below 0
abbrev pub is_below_zero : ℤ → Bool
is_below_zero (pos n) = false
is_below_zero (negsuc n) = true

-- the integer in the lowest w bits of an accumulator
unfoldable pub signed_value : (w accumulator : ℕ) → ℤ
signed_value w accumulator = from_bits w (accumulator % 2 ^ w)

-- what w bits keep of an integer: its remainder modulo 2 ^ w, which is not negative
unfoldable pub modulo : (w : ℕ) → ℤ → ℕ
modulo w z = unsigned_abs (int_rem_euclid z (pos (2 ^ w)))

-- an integer of w bits lies from - 2 ^ (w - 1) to 2 ^ (w - 1) - 1
unfoldable pub in_range : (w : ℕ) → ℤ → Bool
in_range w z = int_le (neg_ℤ (pos (2 ^ (w - 1)))) z && int_lt z (pos (2 ^ (w - 1)))
