-- The instruction word of an op, by the tables that the code uses.
use Rattle.std.specs.Prelude.{ℕ, slice_index_or}
use Rattle.flat_code.specs.Ops.{OpData}
use Rattle.flat_code.specs.declared.operands.Operand.{Operand}
use Rattle.flat_code.specs.declared.operands.Operand.TheVariants as flat
use Rattle.stl_ast.specs.declared.mnemonics.Mnemonic.{Mnemonic}
use Rattle.stl_ast.specs.declared.mnemonics.Mnemonic.TheVariants as code
use Rattle.stl_list.specs.declared.mnemonics.TheConstants.{MNEMONICS, JUMP_MNEMONICS}

-- the word of an op code; `Empty` where no instruction has the code
unfoldable pub mnemonic_of_code : ℕ → Mnemonic
mnemonic_of_code op_code = slice_index_or MNEMONICS op_code code.Empty

-- the word of a jump by its kind
unfoldable pub mnemonic_of_jump : ℕ → Mnemonic
mnemonic_of_jump kind = slice_index_or JUMP_MNEMONICS kind code.Ju

-- the instruction word of an op by its code and its operand; the jumps have one op code, and their
-- kind stands in the operand
abbrev pub mnemonic_by : ℕ → Operand → Mnemonic
mnemonic_by op_code (flat.Jump kind target) = mnemonic_of_jump kind
mnemonic_by op_code _ = mnemonic_of_code op_code

-- the word of an op
abbrev pub mnemonic_of : OpData → Mnemonic
mnemonic_of op = mnemonic_by op.code op.operand
