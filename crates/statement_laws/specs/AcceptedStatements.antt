-- What the statements of a source that breaks no rule name, and what they do.
use Rattle.std.specs.Prelude.{◌≡◌, ℕ, Bool, true, false, ◌||◌, List, Option, Some, slice_get}
use Rattle.std.specs.List.{AllByRecursion}
use Rattle.plc_base.specs.declared.blocks.BlockId.{BlockId}
use Rattle.stl_ast.specs.Literals.{AreBytes}
use Rattle.stl_ast.specs.Statements.{is_empty_statement}
use Rattle.stl_ast.specs.declared.blocks.Block.{Block}
use Rattle.stl_ast.specs.declared.blocks.Tree.{Tree}
use Rattle.stl_ast.specs.declared.mnemonics.Mnemonic.{Mnemonic}
use Rattle.stl_ast.specs.declared.names.BlockName.{BlockName}
use Rattle.stl_ast.specs.declared.operands.Operand.{Operand}
use Rattle.stl_ast.specs.declared.operands.Operand.TheVariants as operand
use Rattle.stl_ast.specs.declared.statements.Statement.{Statement}
use Rattle.stl_symbols.specs.Symbol.{Symbol}
use Rattle.stl_types.specs.Context.{Context}
use Rattle.stl_types.specs.Parameters.{Callee, callee_of}
use Rattle.stl_codegen.specs.Instruction.{instruction}
use Rattle.flat_code.specs.Instr.{Instr}
use Rattle.frames.specs.declared.Activation.{Activation}
use Rattle.machine.specs.Code.{Code}
use Rattle.machine.specs.Statement.{GlobalStore, StatementStep, instruction_step}
use Rattle.sem_kept.specs.AcceptedSource.{IsAccepted}
use Rattle.sem_kept.specs.SettledStatements.{HasLabel, context_at}
use Rattle.statement_laws.specs.Calls.{bindings_of, calls_block, parameter_names}
use Rattle.statement_laws.specs.Effects.{effect_of_statement}
use Rattle.statement_laws.specs.Jumps.{ends_block, jumps_by_list, jumps_to_target, number_of_label}
use Rattle.statement_laws.specs.Laws.{Acts, IsNamedActual, is_bit_logic, is_comparison, is_data_block_instruction, is_block_end, is_idle, is_in_family, is_load_or_transfer, is_number_instruction, is_plain_jump, is_relay, is_shift, is_timing, is_call_instruction, is_jump_by_list}
use Rattle.statement_laws.specs.NamedOperands.{NamedItem}
use Rattle.statement_laws.specs.NamedOperands as named
use Rattle.statement_laws.specs.Operands.{item_named_by}

-- ---- what is named

-- an operand names something
abbrev pub IsNamed : Context → Operand → Type 0
IsNamed c o = (x : NamedItem) × (item_named_by c o ≡ Some x)

-- a call names the block that it calls, whose parameters are known
pub record NamesCalled (c : Context) (s : Statement) : Type 0 where
  -- the name of the called block
  pub name : BlockName
  -- the data block that is its instance, where the call names one
  pub db : Option BlockName
  -- the operand is a call of the named block, with the data block that is named
  pub is : s.operand ≡ operand.Called name db
  -- the called block
  pub id : BlockId
  -- the number of the data block that is the instance, where the call names one
  pub instance : Option ℕ
  -- the operand names the called block, with its instance
  pub names : item_named_by c (operand.Called name db) ≡ Some (named.Called id instance)
  -- the called block with its parameters
  pub callee : Callee
  -- the block with its parameters is found by the operand
  pub found : callee_of c (operand.Called name db) ≡ Some callee
  -- the block whose parameters are known is the one that is called
  pub same : callee.id ≡ id

-- a statement names what it acts on: by its operand, as a call the called block, and by each actual
-- parameter what is passed
pub record IsNamedStatement (c : Context) (s : Statement) : Type 0 where
  -- the operand names what the statement acts on
  pub operand : IsNamed c s.operand
  -- a call names the block that it calls
  pub called : is_call_instruction s.code ≡ true → NamesCalled c s
  -- each actual parameter names what is passed
  pub actuals : AllByRecursion (IsNamedActual c) s.actuals

-- each statement of each block of an accepted source, whose elements are bytes, names what it acts
-- on
abbrev pub AcceptedOperandsAreNamed : Type 0
AcceptedOperandsAreNamed =
    (source file : List ℕ) (symbols : List Symbol) (t : Tree) → IsAccepted source file symbols t
    → AreBytes source → (k : ℕ) (b : Block) → slice_get t.blocks k ≡ Some b
    → AllByRecursion (IsNamedStatement (context_at symbols t k)) b.body

-- ---- what is done

-- the mnemonics whose statement goes on to the next one or is an error: all but those of jumps, of
-- ends of a block and of calls, and of the empty statement
abbrev pub is_no_branch : Mnemonic → Bool
is_no_branch m =
    is_bit_logic m || is_load_or_transfer m || is_number_instruction m || is_comparison m
    || is_shift m || is_timing m || is_relay m || is_data_block_instruction m || is_idle m

-- the step of an instruction is the one that `f` gives, in each program, activation and memory
abbrev pub StepsAs : Instr → (Code → ℕ → Activation → GlobalStore → StatementStep) → Type 0
StepsAs i f =
    (program : Code) (next : ℕ) (a : Activation) (w : GlobalStore)
    → instruction_step program i next a w ≡ f program next a w

-- a statement that goes on does what its mnemonic says with what its operand names
pub record ActsOnItsOperand
    (c : Context) (body : List Statement) (n : ℕ) (s : Statement)
    : Type 0 where
  -- what its operand names
  pub item : NamedItem
  -- the operand names `item`
  pub names : item_named_by c s.operand ≡ Some item
  -- the instruction does with `item` what the mnemonic says
  pub acts : Acts (instruction c body n s) (effect_of_statement s.code item)

-- a jump but JL has a label of its body, and goes to the statement of that label or on, as its
-- mnemonic says
pub record JumpsToLabel (c : Context) (body : List Statement) (n : ℕ) (s : Statement) : Type 0 where
  -- the operand is a label of the body
  pub label : HasLabel body s
  -- the instruction goes to the statement of the label or on, as the mnemonic says
  pub acts :
      StepsAs (instruction c body n s)
      (λ program next a w. jumps_to_target s.code (number_of_label label.name body) next a w)

-- JL has a label of its body, and goes by the jumps behind it up to that label
pub record GoesByJumpList
    (c : Context) (body : List Statement) (n : ℕ) (s : Statement)
    : Type 0 where
  -- the operand is a label of the body
  pub label : HasLabel body s
  -- the instruction goes on at a statement of the list behind it, or at the label
  pub acts :
      StepsAs (instruction c body n s)
      (λ program next a w. jumps_by_list n (number_of_label label.name body) a w)

-- a call calls the block that it names, and each parameter of that block stands for what is passed
-- for its name, which is named
pub record CallsNamed (c : Context) (body : List Statement) (n : ℕ) (s : Statement) : Type 0 where
  -- the operand names the called block
  pub called : NamesCalled c s
  -- each actual parameter names what is passed
  pub actuals : AllByRecursion (IsNamedActual c) s.actuals
  -- the instruction calls this block, each parameter bound to what is passed for its name
  pub acts :
      StepsAs (instruction c body n s)
      (calls_block s.code called.id called.instance
      (bindings_of c s.actuals (parameter_names c called.id)))

-- the instruction of a statement does what the statement says, by its family, of which it has one;
-- n is the number of the statement
pub record DoesAsWritten
    (c : Context) (body : List Statement) (n : ℕ) (s : Statement)
    : Type 0 where
  -- the mnemonic belongs to one of the families
  pub family : is_in_family s.code ≡ true
  -- a statement that goes on acts on what its operand names
  pub goes_on : is_no_branch s.code ≡ true → ActsOnItsOperand c body n s
  -- a jump but JL goes to its label or on
  pub jumps : is_plain_jump s.code ≡ true → JumpsToLabel c body n s
  -- JL goes on at a statement of the list behind it, or at its label
  pub jumps_by_list : is_jump_by_list s.code ≡ true → GoesByJumpList c body n s
  -- an end of a block ends it as its mnemonic says
  pub ends : is_block_end s.code ≡ true → StepsAs (instruction c body n s) (ends_block s.code)
  -- a call calls the block that it names
  pub calls : is_call_instruction s.code ≡ true → CallsNamed c body n s

-- each statement but the empty ones of each block of an accepted source, whose elements are bytes,
-- does as it is written, whatever number it is given
abbrev pub AcceptedStatementsAct : Type 0
AcceptedStatementsAct =
    (source file : List ℕ) (symbols : List Symbol) (t : Tree) → IsAccepted source file symbols t
    → AreBytes source → (k : ℕ) (b : Block) → slice_get t.blocks k ≡ Some b
    → AllByRecursion
    (λ s. is_empty_statement s.code ≡ false → (n : ℕ)
    → DoesAsWritten (context_at symbols t k) b.body n s)
    b.body
