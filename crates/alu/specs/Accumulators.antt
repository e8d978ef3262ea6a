-- Accumulator instructions TAK, PUSH, POP, CAW, CAD, INC, DEC and + (Add Integer Constant).
-- Siemens, Statement List (STL): Accumulator and Address Register Instructions; Integer Math
-- Instructions, "Add Integer Constant".
use Rattle.std.specs.Prelude.{ℕ, ◌+◌, ◌*◌, ◌/◌, ◌%◌, ◌^◌, pos, ◌-ℤ◌}
use Rattle.status_word.specs.declared.registers.Regs.{Regs}
use Rattle.alu.specs.Signed.{modulo}

-- an accumulator whose lowest w bits are now those of `low`, and whose other bits stay
unfoldable pub with_low : (w accumulator low : ℕ) → ℕ
with_low w accumulator low = accumulator / 2 ^ w * 2 ^ w + low

-- byte k of an accumulator, byte 0 the lowest
abbrev pub accu_byte : (accumulator k : ℕ) → ℕ
accu_byte accumulator k = accumulator / 2 ^ (8 * k) % 2 ^ 8

-- TAK: accumulators 1 and 2 exchanged
abbrev pub accumulators_toggled : Regs → Regs
accumulators_toggled r = record r { a1 = r.a2; a2 = r.a1 }

-- PUSH: accumulator 1 copied to accumulator 2
abbrev pub accumulator_pushed : Regs → Regs
accumulator_pushed r = record r { a2 = r.a1 }

-- POP: accumulator 2 copied to accumulator 1
abbrev pub accumulator_popped : Regs → Regs
accumulator_popped r = record r { a1 = r.a2 }

-- CAW: the bytes of ACCU 1-L in the opposite order
unfoldable pub with_word_reversed : Regs → Regs
with_word_reversed r =
    record r { a1 = with_low 16 r.a1 (accu_byte r.a1 0 * 2 ^ 8 + accu_byte r.a1 1) }

-- CAD: the bytes of accumulator 1 in the opposite order
unfoldable pub with_bytes_reversed : Regs → Regs
with_bytes_reversed r = record r {
  a1 = accu_byte r.a1 0 * 2 ^ 24 + accu_byte r.a1 1 * 2 ^ 16 + accu_byte r.a1 2 * 2 ^ 8
      + accu_byte r.a1 3;
}

-- INC and +: n added to the lowest w bits of accumulator 1, modulo 2 ^ w
unfoldable pub accumulator_increased : (w n : ℕ) → Regs → Regs
accumulator_increased w n r = record r { a1 = with_low w r.a1 ((r.a1 + n) % 2 ^ w) }

-- DEC: n taken from the lowest w bits of accumulator 1, modulo 2 ^ w
unfoldable pub accumulator_decreased : (w n : ℕ) → Regs → Regs
accumulator_decreased w n r = record r { a1 = with_low w r.a1 (modulo w (pos r.a1 -ℤ pos n)) }
