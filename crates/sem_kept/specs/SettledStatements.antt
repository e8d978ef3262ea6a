-- In a source that breaks no rule each statement names what its instruction takes, so that none
-- comes to the filler.
use Rattle.std.specs.Prelude.{◌≡◌, ℕ, false, List, [], Option, Some, None, slice_get}
use Rattle.std.specs.List.{AllByRecursion}
use Rattle.plc_base.specs.declared.blocks.BlockId.{BlockId}
use Rattle.flat_code.specs.declared.kinds.JumpOperation.{JumpOperation}
use Rattle.flat_code.specs.declared.operands.Passed.{Passed}
use Rattle.flat_code.specs.declared.operations.CallOperation.{CallOperation}
use Rattle.stl_ast.specs.Literals.{AreBytes}
use Rattle.stl_ast.specs.declared.blocks.Block.{Block}
use Rattle.stl_ast.specs.declared.blocks.Tree.{Tree}
use Rattle.stl_ast.specs.declared.operands.Operand.TheVariants as operand
use Rattle.stl_ast.specs.declared.statements.Actual.{Actual}
use Rattle.stl_ast.specs.declared.statements.Statement.{Statement}
use Rattle.stl_symbols.specs.Names.{name_place}
use Rattle.stl_symbols.specs.Symbol.{Symbol}
use Rattle.block_layout.specs.Layouts.{layouts_of}
use Rattle.stl_types.specs.Calls.{names_no_formal, actuals_supplied_twice}
use Rattle.stl_types.specs.Context.{Context}
use Rattle.stl_types.specs.Labels.{labels_of}
use Rattle.stl_types.specs.Parameters.{Callee, callee_of}
use Rattle.stl_types.specs.Resolution.{resolution_of}
use Rattle.stl_types.specs.ResolvedStatement.{resolved_operand}
use Rattle.stl_types.specs.declared.resolved_operands.ResolvedOperand.{ResolvedOperand}
use Rattle.stl_types.specs.declared.resolved_operands.ResolvedOperand.TheVariants as resolved
use Rattle.stl_codegen.specs.Operations.{call_operation_of, jump_operation_of}
use Rattle.stl_codegen.specs.PassedParameters.{passed_resolution}
use Rattle.sem_kept.specs.AcceptedSource.{IsAccepted}

-- a jump: its operand is a label of its body
pub record HasLabel (body : List Statement) (s : Statement) : Type 0 where
  -- the label that the operand names
  pub name : List ℕ
  -- the operand is this label
  pub is : s.operand ≡ operand.Label name
  -- the place of the label among the labels of the body, from 0
  pub place : ℕ
  -- the label stands at this place
  pub there : name_place name (labels_of body) ≡ Some place

-- a call: its operand names the block that it calls, whose parameters are known; each actual
-- parameter names one of them, and no two the same one
pub record HasCalled (c : Context) (s : Statement) : Type 0 where
  -- the block that the operand names
  pub id : BlockId
  -- the number of the data block that is its instance, where the call names one
  pub instance : Option ℕ
  -- the operand names this block, with this instance
  pub called : resolved_operand c s ≡ Some (resolved.Called id instance)
  -- the block that is called, with its parameters
  pub callee : Callee
  -- it is the block that is found by the operand
  pub found : callee_of c s.operand ≡ Some callee
  -- the block whose parameters are known is the one that is called
  pub same : callee.id ≡ id
  -- each actual parameter names a parameter of the called block
  pub named : AllByRecursion (λ a. names_no_formal callee.formals a ≡ false) s.actuals
  -- no two actual parameters name the same one
  pub once : actuals_supplied_twice callee.formals [] s.actuals ≡ []

-- a statement that is no jump: its operand names what its instruction takes
abbrev pub HasOperand : Context → Statement → Option CallOperation → Type 0
HasOperand c s None = (v : ResolvedOperand) × (resolved_operand c s ≡ Some v)
HasOperand c s (Some how) = HasCalled c s

-- a statement names what its instruction takes: a jump a label, a call a block, another one what
-- it acts on
abbrev pub HasInstruction : Context → List Statement → Statement → Option JumpOperation → Type 0
HasInstruction c body s None = HasOperand c s (call_operation_of s.code)
HasInstruction c body s (Some how) = HasLabel body s

-- an actual parameter names what is passed
abbrev pub NamesWhatIsPassed : Context → Actual → Type 0
NamesWhatIsPassed c a =
    (p : Passed) × (passed_resolution a.value (resolution_of c a.value) ≡ Some p)

-- a statement names what its instruction takes, and each of its actual parameters what is passed
pub record IsResolvedStatement (c : Context) (body : List Statement) (s : Statement) : Type 0 where
  -- it names what its instruction takes
  pub instruction : HasInstruction c body s (jump_operation_of s.code)
  -- each of its actual parameters names what is passed
  pub actuals : AllByRecursion (NamesWhatIsPassed c) s.actuals

-- what the block at a place is checked and compiled by
abbrev pub context_at : List Symbol → Tree → ℕ → Context
context_at symbols t k = record {
  symbols = symbols;
  blocks = t.blocks;
  layouts = layouts_of t symbols;
  block = k;
}

-- each statement of each block of an accepted source, whose elements are bytes, names what its
-- instruction takes
abbrev pub StatementsSettle : Type 0
StatementsSettle =
    (source file : List ℕ) (symbols : List Symbol) (t : Tree) → IsAccepted source file symbols t
    → AreBytes source → (k : ℕ) (b : Block) → slice_get t.blocks k ≡ Some b
    → AllByRecursion (IsResolvedStatement (context_at symbols t k) b.body) b.body
