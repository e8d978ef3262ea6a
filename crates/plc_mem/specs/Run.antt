-- Operands in bytes that stand next to each other.
use Rattle.std.specs.Prelude.{ℕ, ◌+◌, ◌-◌, ◌*◌, ◌/◌, ◌%◌, ◌^◌, List, Option, Bool, slice_index}
use Rattle.std.specs.Int as int
use Rattle.plc_base.specs.declared.Width.{Width}
use Rattle.plc_base.specs.declared.Width.TheVariants.{Bit, Byte, Word, Dword}
use Rattle.plc_mem.specs.Bits.{bit_of_byte}
use Rattle.plc_base.specs.Widths.{bit_count, byte_count}
use Rattle.plc_mem.specs.Number.{weights_of}

-- The unsigned number in the operand from byte `at` on, which lies within a list of bytes; the
-- first byte weighs most, and a bit operand is bit `bit` of its byte.
abbrev pub number_of_bytes : List ℕ → (at bit : ℕ) → Width → ℕ
number_of_bytes bytes at bit Bit = int.bit_at (slice_index bytes at) bit
number_of_bytes bytes at bit Byte = slice_index bytes at
number_of_bytes bytes at bit Word = slice_index bytes at * 2 ^ 8 + slice_index bytes (at + 1)
number_of_bytes bytes at bit Dword =
    slice_index bytes at * 2 ^ 24 + slice_index bytes (at + 1) * 2 ^ 16
    + slice_index bytes (at + 2) * 2 ^ 8
    + slice_index bytes (at + 3)

-- The bit that weighs 2 ^ j of the operand from byte `at` on, if it exists; bytes are given by a
-- function of their numbers.
abbrev pub operand_bit_of : (ℕ → Option ℕ) → (at bit : ℕ) → Width → ℕ → Option Bool
operand_bit_of bytes at bit Bit j = bit_of_byte (bytes at) bit
operand_bit_of bytes at bit width j =
    bit_of_byte (bytes (at + (byte_count width - 1 - j / 8))) (j % 8)

-- The unsigned number in the operand from byte `at` on, if each bit of the operand exists; bytes
-- are given by a function of their numbers.
unfoldable pub number_over : (ℕ → Option ℕ) → (at bit : ℕ) → Width → Option ℕ
number_over bytes at bit width = weights_of (operand_bit_of bytes at bit width) (bit_count width)
