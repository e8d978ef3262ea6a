-- The instruction of a statement of the source. A target is the number of a statement of the block,
-- from 0; empty statements have none. In a source that breaks no rule each statement names what its
-- instruction takes; another statement comes to NOP 0, so that each has its number.
use Rattle.std.specs.Prelude.{ℕ, zero, suc, ◌+◌, ◌-◌, List, [], ◌∷◌, ◌++◌, take, drop, Option, Some, None, if◌then◌else◌, slice_get}
use Rattle.std.specs.Option.{option_and_then}
use Rattle.flat_code.specs.Instr.{Instr, Passing, Does, Jumps, JumpsByList, Calls, Returns}
use Rattle.flat_code.specs.declared.kinds.JumpOperation.{JumpOperation}
use Rattle.flat_code.specs.declared.kinds.JumpOperation.TheVariants as jump
use Rattle.flat_code.specs.declared.operands.Operand.TheVariants as flat
use Rattle.flat_code.specs.declared.operations.CallOperation.{CallOperation}
use Rattle.flat_code.specs.declared.operations.EndOperation.{EndOperation}
use Rattle.flat_code.specs.declared.operations.Operation.TheVariants as operation
use Rattle.stl_ast.specs.Statements.{is_empty_statement}
use Rattle.stl_ast.specs.declared.blocks.Block.{Block}
use Rattle.stl_ast.specs.declared.declarations.Simple.{Simple}
use Rattle.stl_ast.specs.declared.mnemonics.Mnemonic.{Mnemonic}
use Rattle.stl_ast.specs.declared.operands.Operand.{Operand}
use Rattle.stl_ast.specs.declared.operands.Operand.TheVariants as operand
use Rattle.stl_ast.specs.declared.statements.Statement.{Statement}
use Rattle.stl_types.specs.Context.{Context}
use Rattle.stl_types.specs.Lists.{has_label}
use Rattle.stl_types.specs.Parameters.{Callee, callee_of}
use Rattle.stl_types.specs.ResolvedStatement.{resolved_operand}
use Rattle.stl_types.specs.declared.resolved_operands.ResolvedOperand.{ResolvedOperand}
use Rattle.stl_types.specs.declared.resolved_operands.ResolvedOperand.TheVariants as resolved
use Rattle.stl_codegen.specs.Operands.{block_opened_by_operand, flat_operand_of}
use Rattle.stl_codegen.specs.PassedParameters.{passings_from}
use Rattle.stl_codegen.specs.Operations.{jump_operation_of, call_operation_of, end_operation_of, operation_for}

-- 0 for the mnemonic of the empty statement, which has no number, and 1 for every other one
abbrev pub count_of_mnemonic : Mnemonic → ℕ
count_of_mnemonic code = if is_empty_statement code then 0 else 1

-- 0 for an empty statement, which has no number, and 1 for every other one
abbrev pub count_of_statement : Statement → ℕ
count_of_statement s = count_of_mnemonic s.code

-- the number of the first statement that has a label; where none has it, how many there are
unfoldable pub target_in : List ℕ → List Statement → ℕ
target_in name [] = 0
target_in name (s ∷ ss) =
    if has_label name s.label then 0 else count_of_statement s + target_in name ss

-- the target of a jump, by the label that is its operand; 0 for an operand that is no label
abbrev pub target_of : List Statement → Operand → ℕ
target_of body (operand.Label name) = target_in name body
target_of body _ = 0

-- the numbers of so many statements from one on
abbrev pub numbers_from : ℕ → (count : ℕ) → List ℕ
numbers_from n zero = []
numbers_from n (suc count) = n ∷ numbers_from (suc n) count

-- the instruction of a jump, of the number `n`, to a target; JL has the JU behind it, up to its
-- label, as its list
abbrev pub jump_instr : JumpOperation → (n target : ℕ) → Instr
jump_instr jump.Jl n target =
    JumpsByList (numbers_from (suc n) (target - suc n)) target
jump_instr how n target = Jumps how target

-- the parameters of a block by their index in a call: that of the return value, the first declared,
-- is the last
abbrev pub return_last : {A : Type 0} → Option Simple → List A → List A
return_last None params = params
return_last (Some result) params = drop 1 params ++ take 1 params

-- the parameters of a called block by their index in a call: of a block of the source RET_VAL is
-- the last; those of a system function stand so already
abbrev pub in_parameter_order : {A : Type 0} → Option Block → List A → List A
in_parameter_order None params = params
in_parameter_order (Some b) params = return_last b.result params

-- the block of the source at a place; none for a system function, which has no place
abbrev pub source_block_at : List Block → Option ℕ → Option Block
source_block_at blocks place = option_and_then (slice_get blocks) place

-- what a statement passes to the block that it calls; nothing where no such block is known
abbrev pub passings_to : Context → Statement → Option Callee → List Passing
passings_to c s None = []
passings_to c s (Some callee) =
    passings_from c s.actuals 0
    (in_parameter_order (source_block_at c.blocks callee.place) callee.formals)

-- NOP 0, for a statement that doesn't name what its instruction takes
abbrev pub filler_instruction : Instr
filler_instruction = Does None operation.Nop (flat.Literal 0)

-- the instruction of CALL, UC or CC, by the block that its operand names
abbrev pub call_instr : Context → Statement → CallOperation → ResolvedOperand → Instr
call_instr c s how (resolved.Called id instance) =
    Calls how id instance (passings_to c s (callee_of c s.operand))
call_instr c s how _ = filler_instruction

-- BE, BEC and BEU return; every other instruction goes on to the next statement, with its operand
abbrev pub end_instr : Statement → ResolvedOperand → Option EndOperation → Instr
end_instr s v None =
    Does (block_opened_by_operand v) (operation_for s.code s.operand v)
    (flat_operand_of s.operand v)
end_instr s v (Some how) = Returns how

-- CALL, UC and CC call a block; every other instruction returns or goes on
abbrev pub operand_instr : Context → Statement → ResolvedOperand → Option CallOperation → Instr
operand_instr c s v None = end_instr s v (end_operation_of s.code)
operand_instr c s v (Some how) = call_instr c s how v

-- the instruction by what its operand names; NOP 0 where the operand names nothing that it takes
abbrev pub resolved_instr : Context → Statement → Option ResolvedOperand → Instr
resolved_instr c s None = filler_instruction
resolved_instr c s (Some v) = operand_instr c s v (call_operation_of s.code)

-- a jump goes to the statement of its label; every other instruction acts on what its operand names
abbrev pub instr_by : Context → List Statement → (n : ℕ) → Statement → Option JumpOperation → Instr
instr_by c body n s None = resolved_instr c s (resolved_operand c s)
instr_by c body n s (Some how) = jump_instr how n (target_of body s.operand)

-- the instruction of a statement with its number in a body
unfoldable pub instruction : Context → List Statement → (n : ℕ) → Statement → Instr
instruction c body n s = instr_by c body n s (jump_operation_of s.code)
