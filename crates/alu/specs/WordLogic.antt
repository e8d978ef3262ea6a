-- Word logic instructions AW, OW, XOW (w = 16) and AD, OD, XOD (w = 32).
-- Siemens, Statement List (STL): Word Logic Instructions.
use Rattle.std.specs.Prelude.{ℕ, ◌%◌, ◌^◌, false, not, ◌==◌, Option, unwrap_or, bit_and, bit_or, bit_xor}
use Rattle.status_word.specs.declared.registers.Regs.{Regs}
use Rattle.alu.specs.Codes.{codes_shown}
use Rattle.alu.specs.Accumulators.{with_low}

-- the second operand of a word logic instruction: the constant, or else the lowest w bits of
-- accumulator 2
abbrev pub logic_operand : (w : ℕ) (constant : Option ℕ) → Regs → ℕ
logic_operand w constant r = unwrap_or constant (r.a2 % 2 ^ w)

-- the combined bits in the lowest w bits of accumulator 1; CC 1 is 1 where they are not 0, CC 0 and
-- OV are 0
unfoldable pub with_combined : (w bits : ℕ) → Regs → Regs
with_combined w bits r = record r {
  a1 = with_low w r.a1 bits;
  status = codes_shown (record { cc1 = not (bits == 0); cc0 = false; ov = false }) r.status;
}

-- AW (w = 16) and AD (w = 32): the lowest w bits of accumulator 1 AND the second operand
abbrev pub accumulator_anded : (w : ℕ) (constant : Option ℕ) → Regs → Regs
accumulator_anded w constant r =
    with_combined w (bit_and (r.a1 % 2 ^ w) (logic_operand w constant r)) r

-- OW (w = 16) and OD (w = 32): the lowest w bits of accumulator 1 OR the second operand
abbrev pub accumulator_ored : (w : ℕ) (constant : Option ℕ) → Regs → Regs
accumulator_ored w constant r =
    with_combined w (bit_or (r.a1 % 2 ^ w) (logic_operand w constant r)) r

-- XOW (w = 16) and XOD (w = 32): the lowest w bits of accumulator 1 exclusive OR the second
-- operand
abbrev pub accumulator_xored : (w : ℕ) (constant : Option ℕ) → Regs → Regs
accumulator_xored w constant r =
    with_combined w (bit_xor (r.a1 % 2 ^ w) (logic_operand w constant r)) r
