-- The labels of a listing, and the instruction words of the statements that have them.
use Rattle.std.specs.Prelude.{◌≡◌, ◌<◌, ◌≤◌, ℕ, true, false, List, length, Some, None}
use Rattle.std.specs.List.{AllByRecursion, list_any}
use Rattle.flat_code.specs.Instr.{Instr}
use Rattle.flat_code.specs.Kinds.{jump_number}
use Rattle.flat_code.specs.OpCodes.{op_code_of}
use Rattle.flat_code.specs.declared.kinds.JumpOperation.{JumpOperation}
use Rattle.flat_code.specs.declared.operations.CallOperation.{CallOperation}
use Rattle.flat_code.specs.declared.operations.EndOperation.{EndOperation}
use Rattle.flat_code.specs.declared.operations.Operation.TheVariants as operation
use Rattle.stl_ast.specs.Statements.{is_empty_statement}
use Rattle.stl_ast.specs.declared.blocks.Block.{Block}
use Rattle.stl_ast.specs.declared.mnemonics.Mnemonic.{Mnemonic}
use Rattle.stl_ast.specs.declared.operands.Operand.{Operand}
use Rattle.stl_types.specs.Context.{Context}
use Rattle.stl_types.specs.declared.resolved_operands.ResolvedOperand.{ResolvedOperand}
use Rattle.stl_codegen.specs.CompiledBlock.{StatedBlock, compiled_block}
use Rattle.stl_codegen.specs.GeneratedProgram.{statements_of}
use Rattle.stl_codegen.specs.Instruction.{target_in}
use Rattle.stl_codegen.specs.Operations.{call_operation_of, end_operation_of, jump_operation_of, operation_for}
use Rattle.stl_list.specs.Labels.{label_of_number}
use Rattle.stl_list.specs.Mnemonics.{mnemonic_of_jump, mnemonic_of, mnemonic_of_code}
use Rattle.stl_list.specs.Signatures.{Signature}
use Rattle.stl_list.specs.Statements.{body_of}
use Rattle.listing_laws.specs.Statements.{jumps_to, run_of}

-- ---- instruction words

-- an instruction that goes on to the next statement
pub record IsStraightLine (m : Mnemonic) : Type 0 where
  -- it isn't the word of an empty statement
  pub some : is_empty_statement m ≡ false
  -- it isn't the word of a jump
  pub jumps : jump_operation_of m ≡ None
  -- it isn't the word of a call
  pub calls : call_operation_of m ≡ None
  -- it isn't the word of a block end
  pub ends : end_operation_of m ≡ None

-- the word of each instruction that goes on is found by its op code, whatever its operand names
abbrev pub AreWordsFound : Type 0
AreWordsFound =
    (m : Mnemonic) (o : Operand) (v : ResolvedOperand) → IsStraightLine m
    → mnemonic_of_code (op_code_of (operation_for m o v)) ≡ m

-- the word of each jump is found by the number of its jump operation
abbrev pub AreJumpWordsFound : Type 0
AreJumpWordsFound =
    (m : Mnemonic) (how : JumpOperation) → jump_operation_of m ≡ Some how
    → mnemonic_of_jump (jump_number how) ≡ m

-- the word of each call is found by its op code
abbrev pub AreCallWordsFound : Type 0
AreCallWordsFound =
    (m : Mnemonic) (how : CallOperation) → call_operation_of m ≡ Some how
    → mnemonic_of_code (op_code_of (operation.Call how)) ≡ m

-- the word of each block end is found by its op code
abbrev pub AreEndWordsFound : Type 0
AreEndWordsFound =
    (m : Mnemonic) (how : EndOperation) → end_operation_of m ≡ Some how
    → mnemonic_of_code (op_code_of (operation.End how)) ≡ m

-- a listing has a word for an instruction
abbrev pub HasWord : Instr → Type 0
HasWord i = is_empty_statement (mnemonic_of (run_of (λ n. n) i).op) ≡ false

-- a listing has a word for each instruction of a block of a source
abbrev pub HaveWords : Type 0
HaveWords = (c : Context) (b : Block) → AllByRecursion (λ s. HasWord s.instr) (statements_of c b)

-- ---- labels

-- labels of different numbers below 93,312 differ
abbrev pub AreLabelsApart : Type 0
AreLabelsApart = (m n : ℕ) → m < 93312 → n < 93312 → label_of_number m ≡ label_of_number n → m ≡ n

-- in the listed body of a block the label of a statement to which a jump leads is that of its
-- number
abbrev pub AreLabelsReached : Type 0
AreLabelsReached =
    (signatures : List Signature) (lines : List ℕ) (b : StatedBlock) (n : ℕ)
    → AllByRecursion (λ s. HasWord s.instr) b.statements
    → length lines ≡ length b.statements → length b.statements ≤ 93312
    → n < length b.statements → list_any (λ s. jumps_to n s.instr) b.statements ≡ true
    → target_in (label_of_number n) (body_of signatures lines (compiled_block b)) ≡ n
