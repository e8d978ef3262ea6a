-- The ops of an instruction. Those before the last one only prepare; the last one has the end mark.
use Rattle.std.specs.Prelude.{ℕ, true, false, List, [], ◌∷◌, ◌++◌, Option, Some, None}
use Rattle.plc_base.specs.Kinds.{kind_number}
use Rattle.plc_base.specs.declared.blocks.BlockId.{BlockId}
use Rattle.flat_code.specs.Instr.{Instr, Passing, Does, Jumps, JumpsByList, Calls, Returns}
use Rattle.flat_code.specs.Kinds.{jump_number}
use Rattle.flat_code.specs.OpCodes.{op_code_of}
use Rattle.flat_code.specs.Ops.{OpData, op_of}
use Rattle.flat_code.specs.declared.kinds.JumpOperation.{JumpOperation}
use Rattle.flat_code.specs.declared.kinds.JumpOperation.TheVariants as jump
use Rattle.flat_code.specs.declared.operands.Operand.{Operand}
use Rattle.flat_code.specs.declared.operands.Operand.TheVariants as operand
use Rattle.flat_code.specs.declared.operations.CallOperation.{CallOperation}
use Rattle.flat_code.specs.declared.operations.EndOperation.{EndOperation}
use Rattle.flat_code.specs.declared.operations.Operation.{Operation}
use Rattle.flat_code.specs.declared.operations.Operation.TheVariants as operation
use Rattle.block_layout.specs.Fits.{number_or_zero}

-- an op that prepares its statement, without the end mark
abbrev pub preparing_op : Operation → Operand → OpData
preparing_op w o = op_of (op_code_of w) false o

-- the last op of a statement, which has the end mark
abbrev pub op_with_end_mark : Operation → Operand → OpData
op_with_end_mark w o = op_of (op_code_of w) true o

-- USEDB: the data block that the statement opens first
abbrev pub use_db_ops : Option ℕ → List OpData
use_db_ops None = []
use_db_ops (Some number) = preparing_op operation.UseDb (operand.UseDb number) ∷ []

-- PASS: what a CALL passes, one op for each parameter that is supplied
abbrev pub pass_ops : List Passing → List OpData
pass_ops [] = []
pass_ops (p ∷ ps) = preparing_op operation.Pass (operand.Pass p.index p.actual) ∷ pass_ops ps

-- a jump, also LOOP and JL, by its kind and its target
abbrev pub jump_op : JumpOperation → (target : ℕ) → OpData
jump_op how target = op_with_end_mark operation.Jump (operand.Jump (jump_number how) target)

-- CALL, UC or CC, with kind and number of the called block, and the number of the instance; 0
-- stands for no instance
abbrev pub call_op : CallOperation → BlockId → (instance : Option ℕ) → OpData
call_op how block instance =
    op_with_end_mark (operation.Call how)
    (operand.Called (kind_number block.kind) block.number (number_or_zero instance))

-- BE, BEC or BEU, which have no operand
abbrev pub end_op : EndOperation → OpData
end_op how = op_with_end_mark (operation.End how) operand.Nothing

-- the ops of an instruction: those that prepare, USEDB or PASS, and the last one
unfoldable pub ops_of : Instr → List OpData
ops_of (Does use_db w o) = use_db_ops use_db ++ op_with_end_mark w o ∷ []
ops_of (Jumps how target) = jump_op how target ∷ []
-- the list of a JL is the JU statements behind it
ops_of (JumpsByList targets otherwise) = jump_op jump.Jl otherwise ∷ []
ops_of (Calls how block instance passings) = pass_ops passings ++ call_op how block instance ∷ []
ops_of (Returns how) = end_op how ∷ []
