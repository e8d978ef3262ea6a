-- The constants of a source by their bits.
use Rattle.std.specs.Prelude.{ℕ, ◌/◌, ◌%◌, ◌^◌, nat_lt, ◌==◌, List, codes, pos, Option, Some, None, if◌then◌else◌}
use Rattle.std.specs.Int.{cast_signed, w16, w32}
use Rattle.plc_base.specs.declared.places.Area.TheVariants as area
use Rattle.plc_base.specs.Bits.{has_bit}
use Rattle.plc_base.specs.Pointer.{area_number}
use Rattle.flat_code.specs.declared.operations.AddConstant.TheVariants as add_constant
use Rattle.flat_code.specs.declared.operations.Logic.TheVariants as logic
use Rattle.flat_code.specs.declared.operations.Operation.{Operation}
use Rattle.flat_code.specs.declared.operations.Operation.TheVariants as operation
use Rattle.stl_ast.specs.declared.declarations.Simple.{Simple}
use Rattle.stl_ast.specs.declared.declarations.Simple.TheVariants as simple
use Rattle.stl_ast.specs.declared.literals.Literal.{Literal}
use Rattle.stl_ast.specs.declared.literals.Literal.TheVariants as literal
use Rattle.stl_ast.specs.declared.operands.Letters.{Letters}
use Rattle.stl_ast.specs.declared.operands.Letters.TheVariants as letters
use Rattle.stl_ast.specs.declared.operands.Operand.{Operand}
use Rattle.stl_ast.specs.declared.operands.Operand.TheVariants as operand

-- the letters of a pointer constant's area by its number; none for P (0) and 7, which have no
-- constant
abbrev pub pointer_area : ℕ → Option Letters
pointer_area number =
    if number == area_number area.I then Some letters.I
    else if number == area_number area.Q then Some letters.Q
    else if number == area_number area.M then Some letters.M
    else if number == area_number area.Db then Some letters.Db
    else if number == area_number area.Di then Some letters.Di
    else if number == area_number area.L then Some letters.L
    else None

-- the letters of the area of a pointer, by its bits: it has an area where bit 31 is 1
abbrev pub pointer_letters : ℕ → Option Letters
pointer_letters bits = if has_bit bits 31 then pointer_area (bits / 2 ^ 24 % 8) else None

-- the constant P# of a pointer's bits: bits 0 to 18 are the byte and the bit
abbrev pub pointer_constant : ℕ → Operand
pointer_constant bits =
    operand.Pointer (pointer_letters bits) (bits / 8 % 2 ^ 16) (bits % 8)

-- what L loads of an open data block: its length or its number
abbrev pub open_block_name : ℕ → List ℕ
open_block_name which =
    if which == 0 then codes "DBLG"
    else if which == 1 then codes "DBNO"
    else if which == 2 then codes "DILG"
    else codes "DINO"

-- the low word of a constant: W#16#
abbrev pub word_constant : ℕ → Operand
word_constant bits = operand.Constant (literal.Word (bits % 2 ^ 16))

-- the low word of a constant in decimal, with no sign
abbrev pub decimal_constant : ℕ → Operand
decimal_constant bits = operand.Constant (literal.Number (pos (bits % 2 ^ 16)))

-- the constant of an instruction. That of L and of AD, OD and XOD is DW#16#, of AW, OW and XOW
-- W#16#, of an address register P#, of the addition of 32 bits L#; NOP, BLD, INC, DEC, the addition
-- of 16 bits and the shifts have a decimal number
abbrev pub instruction_constant : Operation → ℕ → Operand
instruction_constant operation.Load bits = operand.Constant (literal.Dword bits)
instruction_constant (operation.Logic logic.Ad) bits = operand.Constant (literal.Dword bits)
instruction_constant (operation.Logic logic.Od) bits = operand.Constant (literal.Dword bits)
instruction_constant (operation.Logic logic.Xod) bits = operand.Constant (literal.Dword bits)
instruction_constant (operation.Logic _) bits = word_constant bits
instruction_constant (operation.Pointer which) bits = pointer_constant bits
instruction_constant (operation.Add add_constant.Dword) bits =
    operand.Constant (literal.Long (cast_signed w32 bits))
instruction_constant operation.LoadOpenBlock bits = operand.Other (open_block_name bits)
instruction_constant _ bits = decimal_constant bits

-- a constant by the type of what takes it: a parameter of a CALL, or a component of an instance
abbrev pub typed_constant : Simple → ℕ → Literal
typed_constant simple.Bool bits = literal.Truth (nat_lt 0 bits)
typed_constant simple.Byte bits = literal.Byte (bits % 2 ^ 8)
typed_constant simple.Word bits = literal.Word (bits % 2 ^ 16)
typed_constant simple.Int bits = literal.Number (cast_signed w16 (bits % 2 ^ 16))
typed_constant simple.Time bits = literal.Time (cast_signed w32 bits)
typed_constant _ bits = literal.Dword bits
