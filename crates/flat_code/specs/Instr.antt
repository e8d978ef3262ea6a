-- Instructions with their operands resolved: no name, symbol or label is left in them. Positions in
-- a block are numbers, whatever they count: statements of a source, or bytes of code.
use Rattle.std.specs.Prelude.{ℕ, List, Option}
use Rattle.plc_base.specs.declared.blocks.BlockId.{BlockId}
use Rattle.flat_code.specs.declared.kinds.JumpOperation.{JumpOperation}
use Rattle.flat_code.specs.declared.operands.Operand.{Operand}
use Rattle.flat_code.specs.declared.operands.Passed.{Passed}
use Rattle.flat_code.specs.declared.operations.Operation.{Operation}
use Rattle.flat_code.specs.declared.operations.CallOperation.{CallOperation}
use Rattle.flat_code.specs.declared.operations.EndOperation.{EndOperation}

-- what a CALL passes for the parameter of an index
pub record Passing : Type 0 where
  -- the index of the parameter among those of the called block, from 0
  pub index : ℕ
  -- the actual parameter: what is passed for it
  pub actual : Passed

-- the instruction of a statement
pub data Instr : Type 0 where
  -- an instruction after which the next statement runs; `use_db`: the data block that it opens
  -- first
  Does : (use_db : Option ℕ) (operation : Operation) (operand : Operand) → Instr
  -- a jump to one target, LOOP among them (manual: logic control instructions)
  Jumps : (jump : JumpOperation) (target : ℕ) → Instr
  -- JL, the jump list: accumulator 1 picks one of the targets; beyond the list it jumps to
  -- `otherwise`
  JumpsByList : (targets : List ℕ) (otherwise : ℕ) → Instr
  -- CALL, UC or CC of a function, function block or system function; `instance`: the number of the
  -- instance data block of a function block
  Calls :
      (how : CallOperation) (block : BlockId) (instance : Option ℕ) (passings : List Passing)
      → Instr
  -- the end of the block: BE, BEC or BEU
  Returns : (how : EndOperation) → Instr
