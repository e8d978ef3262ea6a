-- The statements of a listing come to the instructions of the source.
use Rattle.std.specs.Prelude.{◌≡◌, ℕ, false, List, Some, None}
use Rattle.plc_base.specs.declared.places.Area.TheVariants as area
use Rattle.flat_code.specs.Instr.{Instr}
use Rattle.stl_ast.specs.Operands.{IsOperand}
use Rattle.stl_ast.specs.Statements.{is_empty_statement}
use Rattle.stl_ast.specs.declared.blocks.PartKind.{PartKind}
use Rattle.stl_ast.specs.declared.blocks.PathStep.{PathStep}
use Rattle.stl_ast.specs.declared.declarations.Simple.{Simple}
use Rattle.stl_ast.specs.declared.mnemonics.Mnemonic.{Mnemonic}
use Rattle.stl_ast.specs.declared.names.BlockName.{BlockName}
use Rattle.stl_ast.specs.declared.operands.Operand.{Operand}
use Rattle.stl_ast.specs.declared.operands.Operand.TheVariants as operand
use Rattle.stl_ast.specs.declared.statements.Statement.{Statement}
use Rattle.stl_symbols.specs.Symbol.{IsSymbolTarget, Symbol, symbol_named}
use Rattle.stl_types.specs.Addresses.{area_of_pointer}
use Rattle.stl_types.specs.Context.{Context, data_number}
use Rattle.stl_types.specs.Operands.{statement_rule}
use Rattle.stl_types.specs.ResolvedStatement.{resolved_operand}
use Rattle.stl_types.specs.Variables.{own_variable}
use Rattle.stl_types.specs.declared.parameters.Formal.{Formal}
use Rattle.stl_types.specs.declared.resolved_operands.Resolution.TheVariants.{Resolved}
use Rattle.stl_types.specs.declared.resolved_operands.ResolvedOperand.{ResolvedOperand}
use Rattle.stl_types.specs.declared.resolved_operands.ResolvedOperand.TheVariants as resolved
use Rattle.stl_codegen.specs.Instruction.{instruction, target_in, target_of}
use Rattle.stl_codegen.specs.Operations.{call_operation_of, jump_operation_of}
use Rattle.stl_list.specs.Labels.{label_of_number}
use Rattle.stl_list.specs.Runs.{statement_number_at}
use Rattle.stl_list.specs.Statements.{ListingContext, listed_statement}
use Rattle.listing_laws.specs.Operands.{IsConstantCoded, IsOpenedAgain, IsParameterAgain}
use Rattle.listing_laws.specs.Statements.{run_of}

-- the tree of a listing, at a block, has what the statements of the block in the source refer to:
-- the data blocks, and the parameters of a function
pub record HasAgain (c listed : Context) (formals : List Formal) : Type 0 where
  -- each data block that a name means in the source stands in the listing by its number
  pub data_blocks : (name : BlockName) (number : ℕ) → data_number c name ≡ Some number
      → IsOpenedAgain listed (Some number)
  -- what a body of the source sees as a parameter of its block is there in the listing, at its
  -- index
  pub parameter : (name : List ℕ) (steps : List PathStep) (index : ℕ) (section : PartKind)
      (kind : Simple)
      → own_variable c name steps ≡ Resolved (resolved.Parameter index section kind)
      → IsParameterAgain listed formals index section kind

-- an operand that is a constant has its bits, and one that is a pointer doesn't lead to peripherals
abbrev pub IsCodedOperand : Operand → Type 0
IsCodedOperand (operand.Constant value) = IsConstantCoded value
IsCodedOperand (operand.Pointer a byte bit) = area_of_pointer a ≡ Some area.P → ⊥
IsCodedOperand _ = Unit {0}

-- an operand is one that a right source may have, with the symbols of its file
pub record IsRightOperand (symbols : List Symbol) (o : Operand) : Type 0 where
  -- the numbers of the operand are in their ranges, and its names are those of the right blocks
  pub written : IsOperand o
  -- a constant is in the range of its kind, and a pointer doesn't lead to peripherals
  pub coded : IsCodedOperand o
  -- what the symbols of the file stand for is right
  pub targets : (name : List ℕ) (s : Symbol) → symbol_named name symbols ≡ Some s
      → IsSymbolTarget s.target

-- a listed statement, `again`, has the instruction word `m`, breaks no rule by its operand, and
-- comes to the instruction `i` as the statement of number `n` in the listed body
pub record IsInstructionKept
    (listed : Context) (body : List Statement) (n : ℕ) (m : Mnemonic) (i : Instr)
    (again : Statement)
    : Type 0 where
  -- the listed statement has the instruction word
  pub word : again.code ≡ m
  -- the listed statement breaks no rule by its operand
  pub right : statement_rule listed again ≡ None
  -- the listed statement comes to the instruction
  pub instr : instruction listed body n again ≡ i

-- a statement that calls nothing and doesn't jump comes to the instruction of the source
abbrev pub AreInstructionsKept : Type 0
AreInstructionsKept =
    (c listed : Context) (context : ListingContext) (f : ℕ → ℕ) (body again : List Statement)
    (n k : ℕ) (s : Statement) (v : ResolvedOperand)
    → HasAgain c listed context.formals → IsRightOperand c.symbols s.operand
    → is_empty_statement s.code ≡ false → jump_operation_of s.code ≡ None
    → call_operation_of s.code ≡ None
    → resolved_operand c s ≡ Some v
    → IsInstructionKept listed again n s.code (instruction c body n s)
    (listed_statement context k (run_of f (instruction c body n s)))

-- a jump comes to the instruction of the source, where its target has the label of its number
abbrev pub AreJumpsKept : Type 0
AreJumpsKept =
    (c listed : Context) (context : ListingContext) (f : ℕ → ℕ) (body again : List Statement)
    (n k : ℕ) (s : Statement)
    → (jump_operation_of s.code ≡ None → ⊥)
    → statement_number_at context.starts (f (target_of body s.operand)) ≡ target_of body s.operand
    → target_in (label_of_number (target_of body s.operand)) again ≡ target_of body s.operand
    → IsInstructionKept listed again n s.code (instruction c body n s)
    (listed_statement context k (run_of f (instruction c body n s)))
