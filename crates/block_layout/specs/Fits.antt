-- Which constants fit which elementary type, and their bits.
use Rattle.std.specs.Prelude.{ℕ, ◌+◌, ◌-◌, ◌*◌, ◌^◌, ℤ, pos, negsuc, nat_le, nat_lt, nat_eq, Bool, true, false, ◌||◌, List, [], ◌∷◌, length, Option, Some, None, if◌then◌else◌}
use Rattle.plc_base.specs.Bcd.{bcd_digits}
use Rattle.plc_base.specs.S5Time.{s5time_of_ms}
use Rattle.stl_ast.specs.declared.declarations.Simple.{Simple}
use Rattle.stl_ast.specs.declared.declarations.Simple.TheVariants as simple
use Rattle.stl_ast.specs.declared.literals.Literal.{Literal}
use Rattle.stl_ast.specs.declared.literals.Literal.TheVariants as literal

-- a decimal number: INT from -32768 to 32767, WORD up to 65535, BYTE up to 255; a negative number
-- fits INT alone
abbrev pub fits_decimal : ℤ → Simple → Bool
fits_decimal (pos n) simple.Int = nat_le n 32767
fits_decimal (pos n) simple.Word = nat_le n 65535
fits_decimal (pos n) simple.Byte = nat_le n 255
fits_decimal (negsuc n) simple.Int = nat_lt n 32768
fits_decimal _ _ = false

-- a constant with 2# fits each of BYTE, WORD, DWORD that holds the value
abbrev pub fits_binary : ℕ → Simple → Bool
fits_binary n simple.Byte = nat_le n 255
fits_binary n simple.Word = nat_le n 65535
fits_binary n simple.Dword = true
fits_binary _ _ = false

-- a constant with W#16# fits WORD, and BYTE if the value is no more than 255
abbrev pub fits_word : ℕ → Simple → Bool
fits_word n simple.Byte = nat_le n 255
fits_word n simple.Word = true
fits_word _ _ = false

-- so many characters fit CHAR, WORD, DWORD, which hold 1, 2, 4
abbrev pub fits_characters : ℕ → Simple → Bool
fits_characters n simple.Char = nat_eq n 1
fits_characters n simple.Word = nat_eq n 2
fits_characters n simple.Dword = nat_eq n 4
fits_characters _ _ = false

-- BOOL, which TRUE and FALSE alone fit
abbrev pub is_bool_type : Simple → Bool
is_bool_type simple.Bool = true
is_bool_type _ = false

-- BYTE, the only type that B#16# fits
abbrev pub is_byte_type : Simple → Bool
is_byte_type simple.Byte = true
is_byte_type _ = false

-- WORD, the only type that C# fits; S5T# fits it too
abbrev pub is_word_type : Simple → Bool
is_word_type simple.Word = true
is_word_type _ = false

-- DINT, the only type that L# fits; DW#16# fits it too
abbrev pub is_dint_type : Simple → Bool
is_dint_type simple.Dint = true
is_dint_type _ = false

-- DWORD, which DW#16# fits; it fits DINT too
abbrev pub is_dword_type : Simple → Bool
is_dword_type simple.Dword = true
is_dword_type _ = false

-- TIME, the only type that T# fits
abbrev pub is_time_type : Simple → Bool
is_time_type simple.Time = true
is_time_type _ = false

-- S5TIME, which S5T# fits; it fits WORD too
abbrev pub is_s5time_type : Simple → Bool
is_s5time_type simple.S5time = true
is_s5time_type _ = false

-- a constant fits a type. TRUE, FALSE: BOOL. B#16#: BYTE. DW#16#: DWORD, DINT. L#: DINT. T#: TIME.
-- S5T#: S5TIME, WORD. C#: WORD. B#(..) fits none
unfoldable pub fits_elementary_type : Literal → Simple → Bool
fits_elementary_type (literal.Truth value) k = is_bool_type k
fits_elementary_type (literal.Number value) k = fits_decimal value k
fits_elementary_type (literal.Binary value) k = fits_binary value k
fits_elementary_type (literal.Byte value) k = is_byte_type k
fits_elementary_type (literal.Word value) k = fits_word value k
fits_elementary_type (literal.Dword value) k = is_dword_type k || is_dint_type k
fits_elementary_type (literal.Long value) k = is_dint_type k
fits_elementary_type (literal.Count value) k = is_word_type k
fits_elementary_type (literal.Time ms) k = is_time_type k
fits_elementary_type (literal.S5time ms) k = is_s5time_type k || is_word_type k
fits_elementary_type (literal.Characters bytes) k = fits_characters (length bytes) k
fits_elementary_type (literal.Bytes bytes) k = false

-- the bits of an integer in the two's complement of this width
abbrev pub twos_complement_bits : (width : ℕ) → ℤ → ℕ
twos_complement_bits width (pos n) = n
twos_complement_bits width (negsuc n) = 2 ^ width - (n + 1)

-- a number with these bytes behind it, the highest first
abbrev pub number_from : ℕ → List ℕ → ℕ
number_from n [] = n
number_from n (b ∷ bs) = number_from (256 * n + b) bs

-- a number, or 0 where there is none: an S5TIME above 9,990,000 ms has no word (no token is, by
-- rule 4)
abbrev pub number_or_zero : Option ℕ → ℕ
number_or_zero None = 0
number_or_zero (Some n) = n

-- the bits of a constant that fits: a count is three BCD digits, an S5TIME its word
unfoldable pub bits_of : Literal → ℕ
bits_of (literal.Truth value) = if value then 1 else 0
bits_of (literal.Number value) = twos_complement_bits 16 value
bits_of (literal.Binary value) = value
bits_of (literal.Byte value) = value
bits_of (literal.Word value) = value
bits_of (literal.Dword value) = value
bits_of (literal.Long value) = twos_complement_bits 32 value
bits_of (literal.Count value) = bcd_digits 3 value
bits_of (literal.Time ms) = twos_complement_bits 32 ms
bits_of (literal.S5time ms) = number_or_zero (s5time_of_ms ms)
bits_of (literal.Characters bytes) = number_from 0 bytes
bits_of (literal.Bytes bytes) = number_from 0 bytes
