-- Shift instructions SSI, SLW, SRW (w = 16) and SSD, SLD, SRD (w = 32).
-- Siemens, Statement List (STL): Shift and Rotate Instructions.
use Rattle.std.specs.Prelude.{ℕ, ◌-◌, ◌*◌, ◌/◌, ◌%◌, ◌^◌, min, Bool, false, ◌==◌, nat_lt, if◌then◌else◌, Option, unwrap_or}
use Rattle.std.specs.Int.{int_shr}
use Rattle.status_word.specs.declared.registers.Regs.{Regs}
use Rattle.plc_base.specs.Bits.{has_bit}
use Rattle.alu.specs.Signed.{signed_value, modulo}
use Rattle.alu.specs.Codes.{codes_shown}
use Rattle.alu.specs.Accumulators.{with_low}

-- the number of places of a shift or rotate instruction: the literal, or else ACCU 2-L-L
abbrev pub places_of : (literal : Option ℕ) → Regs → ℕ
places_of literal r = unwrap_or literal (r.a2 % 2 ^ 8)

-- the shifted bits in the lowest w bits of accumulator 1; CC 1 is the last bit that was shifted
-- out, CC 0 and OV are 0
unfoldable pub with_shifted : (w bits : ℕ) (last : Bool) → Regs → Regs
with_shifted w bits last r = record r {
  a1 = with_low w r.a1 bits;
  status = codes_shown (record { cc1 = last; cc0 = false; ov = false }) r.status;
}

-- the lowest w bits of accumulator 1 n places left: zeros move in from the right; bit w - n is the
-- last one out
unfoldable pub accumulator_shifted_left : (w n : ℕ) → Regs → Regs
accumulator_shifted_left w n r =
    let bits = r.a1 % 2 ^ w
    in if n == 0 then r
    else if nat_lt w n then with_shifted w 0 false r
    else with_shifted w (bits * 2 ^ n % 2 ^ w) (has_bit bits (w - n)) r

-- the lowest w bits of accumulator 1 n places right: zeros move in from the left; bit n - 1 is the
-- last one out
unfoldable pub accumulator_shifted_right : (w n : ℕ) → Regs → Regs
accumulator_shifted_right w n r =
    let bits = r.a1 % 2 ^ w
    in if n == 0 then r
    else if nat_lt w n then with_shifted w 0 false r
    else with_shifted w (bits / 2 ^ n) (has_bit bits (n - 1)) r

-- the integer in the lowest w bits of accumulator 1 n places right: its sign moves in from the
-- left, so that it is divided by 2 ^ n and rounded down
unfoldable pub accumulator_shifted_signed : (w n : ℕ) → Regs → Regs
accumulator_shifted_signed w n r =
    let places = min n w
    in if n == 0 then r
    else with_shifted w (modulo w (int_shr (signed_value w r.a1) places))
    (has_bit (r.a1 % 2 ^ w) (places - 1)) r
