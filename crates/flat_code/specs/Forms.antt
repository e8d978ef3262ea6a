-- The forms of operands: the payload of each, as the table of forms has it.
use Rattle.std.specs.Prelude.{ℕ, nat_lt, ◌+◌, ◌-◌, ◌==◌, Bool, true, false, ◌||◌, if◌then◌else◌, List, [], ◌∷◌, Option, Some, None}
use Rattle.std.specs.Option.{option_map}
use Rattle.plc_base.specs.Pointer.{area_number, area_numbered}
use Rattle.plc_base.specs.Widths.{width_number}
use Rattle.plc_base.specs.declared.blocks.BlockKind.{BlockKind}
use Rattle.plc_base.specs.declared.blocks.BlockKind.TheVariants as kind
use Rattle.plc_base.specs.declared.places.Area.{Area}
use Rattle.plc_base.specs.declared.places.Area.TheVariants as area
use Rattle.plc_base.specs.declared.places.Width.{Width}
use Rattle.plc_base.specs.declared.places.Width.TheVariants as width
use Rattle.flat_code.specs.declared.operands.Operand.{Operand}
use Rattle.flat_code.specs.declared.operands.Operand.TheVariants as operand
use Rattle.flat_code.specs.declared.operands.Passed.{Passed}
use Rattle.flat_code.specs.declared.operands.Passed.TheVariants as passed
use Rattle.flat_code.specs.Coding.{Coding, u8, u16, u32, byte_coding, such_that, range_coding, then_coding, behind_fourth, behind_second, behind_third, fourth_value, second_value, third_value}
use Rattle.flat_code.specs.Kinds.{jump_number, condition_number, timer_kind, counter_kind, ar1_number, ar2_number, db_register_number, di_register_number}
use Rattle.flat_code.specs.declared.kinds.JumpOperation.TheVariants as jump
use Rattle.plc_base.specs.Kinds.{kind_number}
use Rattle.plc_base.specs.declared.flags.Flag.TheVariants as flag

-- the byte that names an area in an image: 128 and its number, 128 P to 134 L
abbrev pub area_code : Area → ℕ
area_code a = 128 + area_number a

-- the area that a byte names: that of the number above 128; a byte below names none
abbrev pub area_of_code : ℕ → Option Area
area_of_code n = if nat_lt n 128 then None else area_numbered (n - 128)

-- the width that a byte names: 1 bit, 2 byte, 3 word, 4 double word
abbrev pub width_of_code : ℕ → Option Width
width_of_code n =
    if n == width_number width.Bit then Some width.Bit
    else if n == width_number width.Byte then Some width.Byte
    else if n == width_number width.Word then Some width.Word
    else if n == width_number width.Dword then Some width.Dword
    else None

-- the kind of block that a byte names: 1 OB, 2 FC, 3 FB, 5 SFC; other bytes name none
abbrev pub kind_of_code : ℕ → Option BlockKind
kind_of_code n =
    if n == kind_number kind.Ob then Some kind.Ob
    else if n == kind_number kind.Fc then Some kind.Fc
    else if n == kind_number kind.Fb then Some kind.Fb
    else if n == kind_number kind.Sfc then Some kind.Sfc
    else None

-- a width, and a bit (BOOL) in place of a missing one (None)
abbrev pub or_bit : Option Width → Width
or_bit None = width.Bit
or_bit (Some w) = w

-- the width of a parameter's or a name's record by its number, 1 to 4; another number is fault 4,
-- and stands for a bit
abbrev pub width_of_number : ℕ → Width
width_of_number n = or_bit (width_of_code n)

-- the coding of the area byte of form 02, 16#80 P to 16#86 L
abbrev pub any_area_coding : Coding Area
any_area_coding = byte_coding area_code area_of_code

-- whether an area is any but peripherals
abbrev pub is_memory_area : Area → Bool
is_memory_area area.P = false
is_memory_area _ = true

-- whether a pointer, or the number of a timer, counter or data block, may stand in an area: M, DB,
-- DI, L
abbrev pub holds_pointers : Area → Bool
holds_pointers area.M = true
holds_pointers area.Db = true
holds_pointers area.Di = true
holds_pointers area.L = true
holds_pointers _ = false

-- the area byte of form 04: 0 for none (area-crossing), or 16#80 and the number of the area
abbrev pub crossing_code : Option Area → ℕ
crossing_code None = 0
crossing_code (Some a) = area_code a

-- the area that an area byte of form 04 names: 0 is none (that of the pointer counts), 16#80 to
-- 16#86 are areas; None for other bytes
abbrev pub crossing_of_code : ℕ → Option (Option Area)
crossing_of_code n = if n == 0 then Some None else option_map Some (area_of_code n)

-- whether form 04 takes an area: none (area-crossing), or any but peripherals
abbrev pub is_crossing_area : Option Area → Bool
is_crossing_area None = true
is_crossing_area (Some a) = is_memory_area a

-- the coding of the area byte of form 04: 0 for none (area-crossing), or 16#81 I to 16#86 L
abbrev pub crossing_area_coding : Coding (Option Area)
crossing_area_coding = such_that is_crossing_area (byte_coding crossing_code crossing_of_code)

-- the coding of the width byte of an operand, 1 bit to 4 double word; a width that the instruction
-- lacks (fault 7) is read too
abbrev pub width_coding : Coding Width
width_coding = byte_coding width_number width_of_code

-- whether the number of a kind is one of blocks that are called: 2 FC, 3 FB, 5 SFC
abbrev pub is_callable_number : ℕ → Bool
is_callable_number n =
    n == kind_number kind.Fc || n == kind_number kind.Fb || n == kind_number kind.Sfc

-- the coding of the kind byte of a call: 2 FC, 3 FB, 5 SFC; another, as that of an OB (1), can't be
-- read
abbrev pub callable_coding : Coding ℕ
callable_coding = such_that is_callable_number u8

-- the payload of form 01: a literal, as a number of four bytes
abbrev pub literal_coding : Coding ℕ
literal_coding = u32

-- the payload of form 02, a direct place: area, width, byte, and bit 0 to 7, whatever the width is
unfoldable pub direct_coding : Coding (Area × (Width × (ℕ × ℕ)))
direct_coding =
    then_coding any_area_coding (then_coding width_coding (then_coding u16 (range_coding 0 7)))

-- the coding of the area byte of form 03: 16#81 I to 16#86 L
abbrev pub memory_area_coding : Coding Area
memory_area_coding = such_that is_memory_area any_area_coding

-- the coding of the area byte of a pointer, or of a word with the number of a timer, counter or
-- data block: 16#83 M to 16#86 L
abbrev pub pointer_area_coding : Coding Area
pointer_area_coding = such_that holds_pointers any_area_coding

-- the payload of form 03, memory-indirect: area and width of the operand, then area and byte of the
-- double word that has the pointer to it
abbrev pub by_memory_coding : Coding (Area × (Width × (Area × ℕ)))
by_memory_coding =
    then_coding memory_area_coding (then_coding width_coding (then_coding pointer_area_coding u16))

-- the payload of form 04, register-indirect: area and width of the operand, address register 1
-- (AR1) or 2 (AR2), the offset in bits
abbrev pub register_coding : Coding (Option Area × (Width × (ℕ × ℕ)))
register_coding =
    then_coding crossing_area_coding
    (then_coding width_coding (then_coding (range_coding ar1_number ar2_number) u32))

-- the payload of form 05: the index of a parameter of the function, from 0, and the width
abbrev pub parameter_coding : Coding (ℕ × Width)
parameter_coding = then_coding u8 width_coding

-- the payload of form 06: 1 for a timer or 2 for a counter, and the number, 0 to 65,535
abbrev pub numbered_coding : Coding (ℕ × ℕ)
numbered_coding = then_coding (range_coding timer_kind counter_kind) u16

-- the payload of form 07: 1 for a timer or 2 for a counter, then area and byte of the word that has
-- the number of the timer or counter
abbrev pub numbered_by_coding : Coding (ℕ × (Area × ℕ))
numbered_by_coding =
    then_coding (range_coding timer_kind counter_kind) (then_coding pointer_area_coding u16)

-- the payload of form 08, a jump: the kind, 0 JU to 17 LOOP, and the target as an offset in bytes
-- from the first byte of the block's code
abbrev pub jump_coding : Coding (ℕ × ℕ)
jump_coding = then_coding (range_coding (jump_number jump.Ju) (jump_number jump.Loop)) u32

-- the payload of form 09: a condition of the status word, 1 BR to 10 UO
abbrev pub of_status_coding : Coding ℕ
of_status_coding = range_coding (condition_number flag.Br) (condition_number flag.Uo)

-- the payload of form 0A (USEDB): the number of the data block that the statement opens first
abbrev pub use_db_coding : Coding ℕ
use_db_coding = u16

-- the payload of form 0D: kind and number of the block that is called, and the number of the
-- instance data block, or 0 for none
abbrev pub called_coding : Coding (ℕ × (ℕ × ℕ))
called_coding = then_coding callable_coding (then_coding u16 u16)

-- the payload of form 0E (OPN): the data block register, 1 DB or 2 DI, and the number of the data
-- block to open
abbrev pub open_block_coding : Coding (ℕ × ℕ)
open_block_coding = then_coding (range_coding db_register_number di_register_number) u16

-- the payload of form 0F (OPN): the data block register, 1 DB or 2 DI, then area and byte of the
-- word that has the number of the data block to open
abbrev pub open_by_coding : Coding (ℕ × (Area × ℕ))
open_by_coding =
    then_coding (range_coding db_register_number di_register_number)
    (then_coding pointer_area_coding u16)

-- the payload of form 0C, which stands only inside form 0B: the number of a data block, and a
-- direct place in it (area, width, byte, bit)
abbrev pub in_block_coding : Coding (ℕ × (Area × (Width × (ℕ × ℕ))))
in_block_coding = then_coding u16 direct_coding

-- a payload by its coding, made into an operand or into what is passed
abbrev pub read_as : {A B : Type 0} → (A → B) → Coding A → List ℕ → Option (B × List ℕ)
read_as make c bytes = option_map (λ r. (make r.0, r.1)) (c.read bytes)

-- whether each number of what a CALL passes is in the range of its form
abbrev pub actual_fits : Passed → Bool
actual_fits (passed.Literal value) = literal_coding.fits value
actual_fits (passed.Direct area width byte bit) = direct_coding.fits (area, (width, (byte, bit)))
actual_fits (passed.Parameter index width) = parameter_coding.fits (index, width)
actual_fits (passed.InBlock number area width byte bit) =
    in_block_coding.fits (number, (area, (width, (byte, bit))))

-- what is passed, as bytes: the form byte 01, 02, 05 or 0C, and the payload of this form
abbrev pub actual_spelled : Passed → List ℕ
actual_spelled (passed.Literal value) = 1 ∷ literal_coding.spell value
actual_spelled (passed.Direct area width byte bit) =
    2 ∷ direct_coding.spell (area, (width, (byte, bit)))
actual_spelled (passed.Parameter index width) = 5 ∷ parameter_coding.spell (index, width)
actual_spelled (passed.InBlock number area width byte bit) =
    12 ∷ in_block_coding.spell (number, (area, (width, (byte, bit))))

-- the actual parameter of a form byte and the bytes behind it; None for forms but 01, 02, 05 and
-- 0C, and for bytes that the form doesn't have
abbrev pub actual_in : ℕ → List ℕ → Option (Passed × List ℕ)
actual_in n bytes =
    if n == 1 then read_as passed.Literal literal_coding bytes
    else if n == 2 then
    read_as
    (λ x. passed.Direct x.0 (second_value x) (third_value x) (behind_third x))
    direct_coding
    bytes
    else if n == 5 then read_as (λ x. passed.Parameter x.0 x.1) parameter_coding bytes
    else if n == 12 then
    read_as
    (λ x. passed.InBlock x.0 (second_value x) (third_value x) (fourth_value x) (behind_fourth x))
    in_block_coding
    bytes
    else None

-- the actual parameter that bytes begin with, from the form byte on; None where there are no bytes
abbrev pub passed_at : List ℕ → Option (Passed × List ℕ)
passed_at [] = None
passed_at (n ∷ rest) = actual_in n rest

-- the coding of an actual parameter, which a CALL passes: the form byte and payload
unfoldable pub passed_coding : Coding Passed
passed_coding = record { fits = actual_fits; spell = actual_spelled; read = passed_at }

-- the payload of form 0B (PASS): the index of a parameter of the called block, from 0, and the
-- actual parameter that is passed for it
abbrev pub pass_coding : Coding (ℕ × Passed)
pass_coding = then_coding u8 passed_coding

-- the bytes of an op of PASS behind its first byte: the form 0B (11), the index of the parameter,
-- and what is passed
abbrev pub pass_bytes : ℕ → Passed → List ℕ
pass_bytes index passed = 11 ∷ pass_coding.spell (index, passed)

-- the form of an operand, which is the second byte of an op
abbrev pub form_of_operand : Operand → ℕ
form_of_operand operand.Nothing = 0
form_of_operand (operand.Literal value) = 1
form_of_operand (operand.Direct area width byte bit) = 2
form_of_operand (operand.ByMemory area width from byte) = 3
form_of_operand (operand.ByRegister area width register bits) = 4
form_of_operand (operand.Parameter index width) = 5
form_of_operand (operand.Numbered kind number) = 6
form_of_operand (operand.NumberedBy kind from byte) = 7
form_of_operand (operand.Jump kind target) = 8
form_of_operand (operand.OfStatus condition) = 9
form_of_operand (operand.UseDb number) = 10
form_of_operand (operand.Pass index passed) = 11
form_of_operand (operand.Called kind number instance) = 13
form_of_operand (operand.OpenBlock register number) = 14
form_of_operand (operand.OpenBy register from byte) = 15

-- whether each number of an operand is in the range that the form of the operand has for it; form
-- 00 has no number
abbrev pub payload_fits : Operand → Bool
payload_fits operand.Nothing = true
payload_fits (operand.Literal value) = literal_coding.fits value
payload_fits (operand.Direct area width byte bit) = direct_coding.fits (area, (width, (byte, bit)))
payload_fits (operand.ByMemory area width from byte) =
    by_memory_coding.fits (area, (width, (from, byte)))
payload_fits (operand.ByRegister area width register bits) =
    register_coding.fits (area, (width, (register, bits)))
payload_fits (operand.Parameter index width) = parameter_coding.fits (index, width)
payload_fits (operand.Numbered kind number) = numbered_coding.fits (kind, number)
payload_fits (operand.NumberedBy kind from byte) = numbered_by_coding.fits (kind, (from, byte))
payload_fits (operand.Jump kind target) = jump_coding.fits (kind, target)
payload_fits (operand.OfStatus condition) = of_status_coding.fits condition
payload_fits (operand.UseDb number) = use_db_coding.fits number
payload_fits (operand.Pass index actual) = pass_coding.fits (index, actual)
payload_fits (operand.Called kind number instance) = called_coding.fits (kind, (number, instance))
payload_fits (operand.OpenBlock register number) = open_block_coding.fits (register, number)
payload_fits (operand.OpenBy register from byte) = open_by_coding.fits (register, (from, byte))

-- the bytes of an operand behind its form byte; form 00 has none
abbrev pub payload : Operand → List ℕ
payload operand.Nothing = []
payload (operand.Literal value) = literal_coding.spell value
payload (operand.Direct area width byte bit) = direct_coding.spell (area, (width, (byte, bit)))
payload (operand.ByMemory area width from byte) =
    by_memory_coding.spell (area, (width, (from, byte)))
payload (operand.ByRegister area width register bits) =
    register_coding.spell (area, (width, (register, bits)))
payload (operand.Parameter index width) = parameter_coding.spell (index, width)
payload (operand.Numbered kind number) = numbered_coding.spell (kind, number)
payload (operand.NumberedBy kind from byte) = numbered_by_coding.spell (kind, (from, byte))
payload (operand.Jump kind target) = jump_coding.spell (kind, target)
payload (operand.OfStatus condition) = of_status_coding.spell condition
payload (operand.UseDb number) = use_db_coding.spell number
payload (operand.Pass index actual) = pass_coding.spell (index, actual)
payload (operand.Called kind number instance) = called_coding.spell (kind, (number, instance))
payload (operand.OpenBlock register number) = open_block_coding.spell (register, number)
payload (operand.OpenBy register from byte) = open_by_coding.spell (register, (from, byte))

-- the operand of a form byte and the bytes behind; None for 0C, which is no form of an operand,
-- for forms above 0F, and for bytes that the form doesn't have
unfoldable pub payload_in : ℕ → List ℕ → Option (Operand × List ℕ)
payload_in n bytes =
    if n == 0 then Some (operand.Nothing, bytes)
    else if n == 1 then read_as operand.Literal literal_coding bytes
    else if n == 2 then
    read_as
    (λ x. operand.Direct x.0 (second_value x) (third_value x) (behind_third x))
    direct_coding
    bytes
    else if n == 3 then
    read_as
    (λ x. operand.ByMemory x.0 (second_value x) (third_value x) (behind_third x))
    by_memory_coding
    bytes
    else if n == 4 then
    read_as
    (λ x. operand.ByRegister x.0 (second_value x) (third_value x) (behind_third x))
    register_coding
    bytes
    else if n == 5 then read_as (λ x. operand.Parameter x.0 x.1) parameter_coding bytes
    else if n == 6 then read_as (λ x. operand.Numbered x.0 x.1) numbered_coding bytes
    else if n == 7 then
    read_as
    (λ x. operand.NumberedBy x.0 (second_value x) (behind_second x))
    numbered_by_coding
    bytes
    else if n == 8 then read_as (λ x. operand.Jump x.0 x.1) jump_coding bytes
    else if n == 9 then read_as operand.OfStatus of_status_coding bytes
    else if n == 10 then read_as operand.UseDb use_db_coding bytes
    else if n == 11 then read_as (λ x. operand.Pass x.0 x.1) pass_coding bytes
    else if n == 13 then
    read_as (λ x. operand.Called x.0 (second_value x) (behind_second x)) called_coding bytes
    else if n == 14 then read_as (λ x. operand.OpenBlock x.0 x.1) open_block_coding bytes
    else if n == 15 then
    read_as (λ x. operand.OpenBy x.0 (second_value x) (behind_second x)) open_by_coding bytes
    else None
