-- The widths of operands.
use Rattle.std.specs.Prelude.{ℕ}
use Rattle.plc_base.specs.declared.places.Width.{Width}
use Rattle.plc_base.specs.declared.places.Width.TheVariants.{Bit, Byte, Word, Dword}

-- how many bytes an operand lies in: a byte, a word of two, a double word of four; a bit lies in
-- one
abbrev pub byte_count : Width → ℕ
byte_count Bit = 1
byte_count Byte = 1
byte_count Word = 2
byte_count Dword = 4

-- how many bits an operand has
abbrev pub bit_count : Width → ℕ
bit_count Bit = 1
bit_count Byte = 8
bit_count Word = 16
bit_count Dword = 32

-- a width as a number, the wider the greater: 1 to 4
abbrev pub width_number : Width → ℕ
width_number Bit = 1
width_number Byte = 2
width_number Word = 3
width_number Dword = 4
