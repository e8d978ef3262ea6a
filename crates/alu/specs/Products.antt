-- *I and *D: the product of accumulators 2 and 1.
-- Siemens, Statement List (STL): Integer Math Instructions.
use Rattle.std.specs.Prelude.{ℕ, not, ℤ, ◌*ℤ◌}
use Rattle.status_word.specs.declared.registers.Regs.{Regs}
use Rattle.alu.specs.Signed.{signed_value, modulo, in_range}
use Rattle.alu.specs.Codes.{of_sign, codes_shown}

-- the registers with a product z: modulo 2 ^ 32 it is accumulator 1; CC show its sign, and OV is 1
-- where it does not fit w bits
unfoldable pub with_product : (w : ℕ) → ℤ → Regs → Regs
with_product w z r =
    record r { a1 = modulo 32 z; status = codes_shown (of_sign z (not (in_range w z))) r.status }

-- *I (w = 16) and *D (w = 32): accumulator 2 times accumulator 1, as integers of w bits
abbrev pub accumulators_multiplied : (w : ℕ) → Regs → Regs
accumulators_multiplied w r = with_product w (signed_value w r.a2 *ℤ signed_value w r.a1) r
