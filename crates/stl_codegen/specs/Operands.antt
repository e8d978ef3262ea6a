-- The operand of an instruction in the code, by what the operand of the source names.
use Rattle.std.specs.Prelude.{ℕ, ◌+◌, ◌*◌, ◌^◌, nat_eq, Bool, true, false, ◌&&◌, not, Option, Some, None, if◌then◌else◌}
use Rattle.plc_base.specs.Pointer.{area_number}
use Rattle.plc_base.specs.declared.places.Area.{Area}
use Rattle.plc_base.specs.declared.places.Area.TheVariants as area
use Rattle.plc_base.specs.declared.places.Place.{Place}
use Rattle.plc_base.specs.declared.places.Width.{Width}
use Rattle.flat_code.specs.Kinds.{condition_number, timer_kind, counter_kind, db_register_number, di_register_number}
use Rattle.flat_code.specs.declared.operands.Operand.{Operand as FlatOperand}
use Rattle.flat_code.specs.declared.operands.Operand.TheVariants as flat
use Rattle.stl_ast.specs.declared.literals.Literal.{Literal}
use Rattle.stl_ast.specs.declared.operands.Numbered.{Numbered}
use Rattle.stl_ast.specs.declared.operands.Numbered.TheVariants as numbered
use Rattle.stl_ast.specs.declared.operands.Operand.{Operand}
use Rattle.stl_ast.specs.declared.operands.Operand.TheVariants as operand
use Rattle.block_layout.specs.Fits.{bits_of}
use Rattle.block_layout.specs.Offsets.{width_of}
use Rattle.stl_types.specs.declared.resolved_operands.Register.{Register}
use Rattle.stl_types.specs.declared.resolved_operands.Register.TheVariants as register
use Rattle.stl_types.specs.declared.resolved_operands.ResolvedOperand.{ResolvedOperand}
use Rattle.stl_types.specs.declared.resolved_operands.ResolvedOperand.TheVariants as resolved

-- the area of the DB register
abbrev pub is_db : Area → Bool
is_db area.Db = true
is_db _ = false

-- a place in a data block that is named, as DB10.DBW 2: the statement opens it first
abbrev pub is_in_named_block : Place → Bool
is_in_named_block place = is_db place.area && not (nat_eq place.number 0)

-- the number of the data block that a place names, as DB10.DBW 2 does; no other place has one
abbrev pub block_opened_by_place : Place → Option ℕ
block_opened_by_place place = if is_in_named_block place then Some place.number else None

-- USEDB: the data block that a statement opens first, for a place in a named data block
abbrev pub block_opened_by_operand : ResolvedOperand → Option ℕ
block_opened_by_operand (resolved.Direct place width side declared) = block_opened_by_place place
block_opened_by_operand _ = None

-- a fixed place by area, width, byte and bit; the number of a data block is no part of it
abbrev pub direct_flat_operand : Place → Width → FlatOperand
direct_flat_operand place width = flat.Direct place.area width place.byte place.bit

-- the bits of a pointer constant: without an area the bit and the byte alone
abbrev pub pointer_bits : Option Area → (byte bit : ℕ) → ℕ
pointer_bits None byte bit = 8 * byte + bit
pointer_bits (Some a) byte bit = 2 ^ 31 + 2 ^ 24 * area_number a + 8 * byte + bit

-- the bits of a constant that is an operand; 0 for another operand
abbrev pub constant_bits : Operand → ℕ
constant_bits (operand.Constant value) = bits_of value
constant_bits _ = 0

-- the operand of L DBLG, L DBNO, L DILG, L DINO, by the register; STW and AR2 stand in the
-- operation
abbrev pub register_operand : Register → FlatOperand
register_operand register.Dblg = flat.Literal 0
register_operand register.Dbno = flat.Literal 1
register_operand register.Dilg = flat.Literal 2
register_operand register.Dino = flat.Literal 3
register_operand _ = flat.Nothing

-- the operand of what has a number that memory gives: a timer or a counter, or a data block that is
-- opened in one of the two registers
abbrev pub numbered_operand : Numbered → Area → (byte : ℕ) → FlatOperand
numbered_operand numbered.Timer from byte = flat.NumberedBy timer_kind from byte
numbered_operand numbered.Counter from byte = flat.NumberedBy counter_kind from byte
numbered_operand numbered.Db from byte = flat.OpenBy db_register_number from byte
numbered_operand numbered.Di from byte = flat.OpenBy di_register_number from byte

-- the operand of an instruction that goes on; what names a block, a label or no elementary variable
-- comes to no such instruction
unfoldable pub flat_operand_of : Operand → ResolvedOperand → FlatOperand
flat_operand_of o (resolved.Direct place width side declared) = direct_flat_operand place width
flat_operand_of o (resolved.Parameter index section declared) = flat.Parameter index (width_of declared)
flat_operand_of o (resolved.ByMemory a width from byte) = flat.ByMemory a width from byte
flat_operand_of o (resolved.ByRegister a width r bits) = flat.ByRegister a width r bits
flat_operand_of o (resolved.Timer number) = flat.Numbered timer_kind number
flat_operand_of o (resolved.Counter number) = flat.Numbered counter_kind number
flat_operand_of o (resolved.NumberBy what from byte) = numbered_operand what from byte
flat_operand_of o resolved.Constant = flat.Literal (constant_bits o)
flat_operand_of o (resolved.Pointer a byte bit) = flat.Literal (pointer_bits a byte bit)
flat_operand_of o (resolved.OfStatus flag) = flat.OfStatus (condition_number flag)
flat_operand_of o (resolved.Register which) = register_operand which
flat_operand_of o (resolved.OpenBlock di number) =
    flat.OpenBlock (if di then di_register_number else db_register_number) number
flat_operand_of o _ = flat.Nothing
