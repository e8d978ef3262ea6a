-- Which blocks of a program call which.
use Rattle.std.specs.Prelude.{◌≡◌, ◌⊎◌, ℕ, List, [], ◌∷◌, Option, Some, None}
use Rattle.std.specs.Option.{option_map}
use Rattle.plc_base.specs.declared.blocks.BlockId.{BlockId}
use Rattle.plc_base.specs.declared.blocks.BlockKind.{BlockKind}
use Rattle.flat_code.specs.Forms.{kind_of_code}
use Rattle.flat_code.specs.Operations.{operation_of}
use Rattle.flat_code.specs.Ops.{OpData}
use Rattle.flat_code.specs.Programs.{CodeBlock, Program}
use Rattle.flat_code.specs.declared.operands.Operand.{Operand}
use Rattle.flat_code.specs.declared.operands.Operand.TheVariants as operand
use Rattle.flat_code.specs.declared.operations.Operation.{Operation}
use Rattle.flat_code.specs.declared.operations.Operation.TheVariants as operation
use Rattle.image_file.specs.Readers.{block_by_id}

-- a block of a kind and number
abbrev pub block_named : (number : ℕ) → BlockKind → BlockId
block_named number kind = record { kind = kind; number = number }

-- the block that CALL, UC or CC names; no other operation calls one
abbrev pub callee_in : Operation → Operand → Option BlockId
callee_in (operation.Call how) (operand.Called kind number instance) =
    option_map (block_named number) (kind_of_code kind)
callee_in _ _ = None

-- the block that an op calls
abbrev pub callee_of_op : OpData → Option BlockId
callee_of_op op = callee_in (operation_of op.code) op.operand

-- the code has CALL, UC or CC of this block
abbrev pub CallsIn : List OpData → BlockId → Type 0
CallsIn [] called = ⊥
CallsIn (op ∷ ops) called = (callee_of_op op ≡ Some called) ⊎ CallsIn ops called

-- a loaded block calls a loaded block, which may be itself, where its code has CALL, UC or CC of it. A
-- system function is none: no program has code of it
pub record CallsBlock (p : Program) (caller called : BlockId) : Type 0 where
  -- the caller, with its code
  pub from : CodeBlock
  -- the called block, with its code
  pub to : CodeBlock
  -- the caller is loaded
  pub is_loaded : block_by_id caller p.code_blocks ≡ Some from
  -- the called block is loaded
  pub called_is_loaded : block_by_id called p.code_blocks ≡ Some to
  -- the code of the caller has CALL, UC or CC of the called block
  pub calls : CallsIn from.code called
