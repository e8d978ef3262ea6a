-- The most bytes that the code of a tree can take. An op has its code and its form in a byte each,
-- and then its operand: an op with a place takes 7 in all, one with a place by an address register
-- 9, and one that opens a data block before it 4.
use Rattle.std.specs.Prelude.{ℕ, ◌+◌, ◌*◌, if◌then◌else◌, length, sum_by, Option, Some, None}
use Rattle.plc_base.specs.Kinds.{is_code}
use Rattle.plc_base.specs.declared.blocks.BlockKind.{BlockKind}
use Rattle.stl_ast.specs.declared.blocks.Block.{Block}
use Rattle.stl_ast.specs.declared.blocks.Tree.{Tree}
use Rattle.stl_ast.specs.declared.mnemonics.Mnemonic.{Mnemonic}
use Rattle.stl_ast.specs.declared.mnemonics.Mnemonic.TheVariants as code
use Rattle.stl_ast.specs.declared.names.BlockName.{BlockName}
use Rattle.stl_ast.specs.declared.operands.Operand.{Operand}
use Rattle.stl_ast.specs.declared.operands.Operand.TheVariants as operand
use Rattle.stl_ast.specs.declared.operands.PathHead.{PathHead}
use Rattle.stl_ast.specs.declared.operands.PathHead.TheVariants as head
use Rattle.stl_ast.specs.declared.statements.Statement.{Statement}

-- the bytes that an op before an address adds, which opens a named data block: 4, and 0 without a
-- name
abbrev pub block_size : Option BlockName → ℕ
block_size None = 0
block_size (Some name) = 4

-- the most bytes of a path or a symbol: of the op with its one place, and in a named data block of
-- the op before it that opens the block
abbrev pub path_size : PathHead → ℕ
path_size (head.Local name) = 7
path_size (head.InBlock name) = 11
path_size (head.Symbol name) = 7

-- the most bytes of the op of an operand's instruction and of the one before it that opens a block
abbrev pub operand_ops_size : Operand → ℕ
operand_ops_size operand.Nothing = 2
operand_ops_size (operand.Direct name area w byte bit) = 7 + block_size name
operand_ops_size (operand.Timer number) = 5
operand_ops_size (operand.Counter number) = 5
operand_ops_size (operand.Named path steps) = path_size path
operand_ops_size (operand.ByMemory area w from byte) = 7
operand_ops_size (operand.NumberBy what from byte) = 6
operand_ops_size (operand.ByRegister area w register bits) = 9
operand_ops_size (operand.Pointer area byte bit) = 6
operand_ops_size (operand.Constant value) = 6
operand_ops_size (operand.Label name) = 7
operand_ops_size (operand.OfStatus flag) = 3
operand_ops_size (operand.Other name) = 6
operand_ops_size (operand.OpenBlock di name) = 5
operand_ops_size (operand.Called name instance) = 7

-- the most bytes that an instruction with an operand and `count` actual parameters takes: none for
-- `;` alone, else 4 for its line, those of the operand's ops, and 11 an actual parameter
abbrev pub code_size : Mnemonic → Operand → ℕ → ℕ
code_size code.Empty o count = 0
code_size _ o count = 4 + operand_ops_size o + 11 * count

-- the most bytes that a statement takes: the entry of its line, its ops, and an op of at most 11
-- bytes for each actual parameter; the empty statement has no code
abbrev pub statement_size : Statement → ℕ
statement_size s = code_size s.code s.operand (length s.actuals)

-- the bytes of the statement that returns, behind the last one of a body: 6 in a block with code
abbrev pub return_size : BlockKind → ℕ
return_size k = if is_code k then 6 else 0

-- the most bytes of the statements of a block, and of the one that returns if its kind has a body
abbrev pub body_size : Block → ℕ
body_size b = return_size b.kind + sum_by statement_size b.body

-- the most bytes of all statements of a tree, and of those that return
abbrev pub tree_size : Tree → ℕ
tree_size t = sum_by body_size t.blocks
