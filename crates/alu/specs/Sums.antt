-- +I, +D, -I, -D, NEGI and NEGD: a true sum, and the range in which it lies.
-- Siemens, Statement List (STL): Integer Math Instructions; Conversion Instructions, "Negate".
use Rattle.std.specs.Prelude.{ℕ, ◌^◌, true, false, not, ◌==◌, if◌then◌else◌, ℤ, pos, ◌+ℤ◌, ◌-ℤ◌, neg_ℤ, unsigned_abs, int_lt}
use Rattle.status_word.specs.declared.registers.Regs.{Regs}
use Rattle.alu.specs.declared.codes.Codes.{Codes}
use Rattle.alu.specs.Signed.{signed_value, modulo, in_range}
use Rattle.alu.specs.Codes.{of_sign, codes_shown}
use Rattle.alu.specs.Accumulators.{with_low}

-- CC 1/CC 0 and OV of a true sum z: in range its sign and OV 0; too high 0/1 and OV 1; too low 1/0
-- and OV 1, but 0/0 at - 2 ^ w
unfoldable pub sum_codes : (w : ℕ) → ℤ → Codes
sum_codes w z =
    if in_range w z then of_sign z false
    else if int_lt (pos 0) z then record { cc1 = false; cc0 = true; ov = true }
    else record { cc1 = not (unsigned_abs z == 2 ^ w); cc0 = false; ov = true }

-- a true sum z, modulo 2 ^ w, in the lowest w bits of accumulator 1, and its codes
unfoldable pub with_sum : (w : ℕ) → ℤ → Regs → Regs
with_sum w z r =
    record r { a1 = with_low w r.a1 (modulo w z); status = codes_shown (sum_codes w z) r.status }

-- +I (w = 16) and +D (w = 32): accumulator 2 plus accumulator 1
abbrev pub accumulators_added : (w : ℕ) → Regs → Regs
accumulators_added w r = with_sum w (signed_value w r.a2 +ℤ signed_value w r.a1) r

-- -I (w = 16) and -D (w = 32): accumulator 2 minus accumulator 1
abbrev pub accumulators_subtracted : (w : ℕ) → Regs → Regs
accumulators_subtracted w r = with_sum w (signed_value w r.a2 -ℤ signed_value w r.a1) r

-- NEGI (w = 16) and NEGD (w = 32): 0 minus accumulator 1
abbrev pub accu_negated : (w : ℕ) → Regs → Regs
accu_negated w r = with_sum w (neg_ℤ (signed_value w r.a1)) r
