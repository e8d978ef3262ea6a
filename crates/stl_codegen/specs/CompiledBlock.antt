-- The code of a block: the ops of its statements one behind the other. A target is the number of a
-- statement, from 0, before the ops have their places, and a byte offset then.
use Rattle.std.specs.Prelude.{ℕ, zero, suc, ◌+◌, Bool, true, false, List, [], ◌∷◌, map}
use Rattle.std.specs.List.{flat_map}
use Rattle.plc_base.specs.declared.blocks.BlockId.{BlockId}
use Rattle.flat_code.specs.Codes.{size_of_op}
use Rattle.flat_code.specs.Instr.{Instr}
use Rattle.flat_code.specs.Ops.{OpData}
use Rattle.flat_code.specs.Programs.{CodeBlock}
use Rattle.flat_code.specs.declared.programs.Param.{Param}
use Rattle.flat_code.specs.declared.operands.Operand.{Operand}
use Rattle.flat_code.specs.declared.operands.Operand.TheVariants as operand
use Rattle.stl_codegen.specs.EmittedOps.{ops_of}

-- a statement of a block, empty ones left out: its instruction and its line
pub record SourceInstruction : Type 0 where
  -- the instruction of the statement
  pub instr : Instr
  -- the line of the statement in the source
  pub line : ℕ

-- the ops of statements, whose targets are still numbers of statements
abbrev pub ops_in : List SourceInstruction → List OpData
ops_in statements = flat_map (λ s. ops_of s.instr) statements

-- the offset of the first op of a statement, of ops that begin at an offset; `begins`: whether a
-- statement begins with the first of them. Behind the last statement it is the end of the code
abbrev pub offset_from : (at : ℕ) → (begins : Bool) → List OpData → ℕ → ℕ
offset_from at begins [] n = at
offset_from at true (op ∷ ops) zero = at
offset_from at true (op ∷ ops) (suc n) = offset_from (at + size_of_op op) op.last ops n
offset_from at false (op ∷ ops) n = offset_from (at + size_of_op op) op.last ops n

-- the byte offset of the statement of a number, from 0; past the last one that of the code's end
unfoldable pub offset_of_statement : List OpData → ℕ → ℕ
offset_of_statement ops n = offset_from 0 true ops n

-- an operand with its target by a function of targets; one that is no jump's stays as it is
abbrev pub operand_with_target : (ℕ → ℕ) → Operand → Operand
operand_with_target f (operand.Jump kind target) = operand.Jump kind (f target)
operand_with_target f o = o

-- an op with its target by a function of targets; one that is no jump stays as it is
abbrev pub op_with_target : (ℕ → ℕ) → OpData → OpData
op_with_target f op = record op { operand = operand_with_target f op.operand }

-- the ops with byte offsets as targets
unfoldable pub placed_ops : List OpData → List OpData
placed_ops ops = map (op_with_target (offset_of_statement ops)) ops

-- the ops of statements, with byte offsets as targets
abbrev pub code_in : List SourceInstruction → List OpData
code_in statements = placed_ops (ops_in statements)

-- the source line of each statement, in order
abbrev pub lines_in : List SourceInstruction → List ℕ
lines_in statements = map (λ s. s.line) statements

-- a code block before its statements are ops
pub record StatedBlock : Type 0 where
  -- kind and number of the block
  pub id : BlockId
  -- how many bytes of local data the block has
  pub local_len : ℕ
  -- how many bytes an instance of the block has
  pub instance_len : ℕ
  -- the parameters of the block with their places
  pub params : List Param
  -- the statements of the block in order, empty ones left out
  pub statements : List SourceInstruction

-- the code block of these statements: their ops with byte offsets as targets, and their lines
abbrev pub compiled_block : StatedBlock → CodeBlock
compiled_block b = record {
  id = b.id;
  local_len = b.local_len;
  instance_len = b.instance_len;
  params = b.params;
  code = code_in b.statements;
  lines = lines_in b.statements;
}
