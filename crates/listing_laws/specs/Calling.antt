-- The calls of a listing that pass nothing.
use Rattle.std.specs.Prelude.{◌≡◌, ℕ, true, false, List, [], Some}
use Rattle.plc_base.specs.Kinds.{is_data_type}
use Rattle.plc_base.specs.declared.blocks.BlockId.{BlockId}
use Rattle.flat_code.specs.declared.operations.CallOperation.{CallOperation}
use Rattle.stl_ast.specs.Statements.{names_called_block}
use Rattle.stl_ast.specs.declared.statements.Statement.{Statement}
use Rattle.stl_types.specs.Context.{Context}
use Rattle.stl_types.specs.Resolution.{whole_called_block}
use Rattle.stl_types.specs.ResolvedStatement.{resolved_operand}
use Rattle.stl_types.specs.declared.resolved_operands.ResolvedOperand.{ResolvedOperand}
use Rattle.stl_codegen.specs.Instruction.{instruction}
use Rattle.stl_codegen.specs.Operations.{call_operation_of}
use Rattle.stl_list.specs.Statements.{ListingContext, listed_statement}
use Rattle.listing_laws.specs.Instructions.{HasAgain, IsInstructionKept}
use Rattle.listing_laws.specs.Statements.{run_of}

-- the blocks that the source may call stand in the tree of the listing, which has no user-defined
-- data types
abbrev pub AreCalledAgain : Context → Context → Type 0
AreCalledAgain c listed =
    (id : BlockId) → is_data_type id.kind ≡ false → whole_called_block c (Some id) ≡ Some id
    → whole_called_block listed (Some id) ≡ Some id

-- UC, CC, or a CALL without actual parameters comes to the instruction of the source
abbrev pub AreBareCallsKept : Type 0
AreBareCallsKept =
    (c listed : Context) (context : ListingContext) (f : ℕ → ℕ) (body again : List Statement)
    (n k : ℕ) (s : Statement) (v : ResolvedOperand) (how : CallOperation)
    → HasAgain c listed context.formals → AreCalledAgain c listed
    → names_called_block s.operand ≡ true → s.actuals ≡ [] → call_operation_of s.code ≡ Some how
    → resolved_operand c s ≡ Some v
    → IsInstructionKept listed again n s.code (instruction c body n s)
    (listed_statement context k (run_of f (instruction c body n s)))
