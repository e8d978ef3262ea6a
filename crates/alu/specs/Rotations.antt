-- Rotate instructions RLD, RRD, RLDA and RRDA, on the 32 bits of accumulator 1.
-- Siemens, Statement List (STL): Shift and Rotate Instructions.
use Rattle.std.specs.Prelude.{ℕ, ◌+◌, ◌-◌, ◌*◌, ◌/◌, ◌%◌, ◌^◌, ◌==◌, if◌then◌else◌}
use Rattle.status_word.specs.declared.registers.Regs.{Regs}
use Rattle.plc_base.specs.Bits.{has_bit}
use Rattle.status_word.specs.StatusNumber.{bit_as_number}
use Rattle.alu.specs.Shifts.{with_shifted}

-- n places, above 0, as 1 to 32 of them: 32 places are a whole turn
abbrev pub turn_of : ℕ → ℕ
turn_of n = (n - 1) % 32 + 1

-- RLD: what leaves on the left moves in from the right; the last bit to do so is bit 32 - places
unfoldable pub accumulator_rotated_left : (n : ℕ) → Regs → Regs
accumulator_rotated_left n r =
    let places = turn_of n
    in if n == 0 then r
    else with_shifted 32 (r.a1 * 2 ^ places % 2 ^ 32 + r.a1 / 2 ^ (32 - places))
    (has_bit r.a1 (32 - places)) r

-- RRD: what leaves on the right moves in from the left; the last bit to do so is bit places - 1
unfoldable pub accumulator_rotated_right : (n : ℕ) → Regs → Regs
accumulator_rotated_right n r =
    let places = turn_of n
    in if n == 0 then r
    else with_shifted 32 (r.a1 / 2 ^ places + r.a1 % 2 ^ places * 2 ^ (32 - places))
    (has_bit r.a1 (places - 1)) r

-- RLDA: one place left through CC 1, which moves in from the right
unfoldable pub accumulator_rotated_left_through : Regs → Regs
accumulator_rotated_left_through r =
    with_shifted 32 (r.a1 * 2 % 2 ^ 32 + bit_as_number r.status.cc1) (has_bit r.a1 31) r

-- RRDA: one place right through CC 1, which moves in from the left
unfoldable pub accumulator_rotated_right_through : Regs → Regs
accumulator_rotated_right_through r =
    with_shifted 32 (r.a1 / 2 + bit_as_number r.status.cc1 * 2 ^ 31) (has_bit r.a1 0) r
