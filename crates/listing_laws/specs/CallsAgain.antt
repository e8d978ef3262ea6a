-- The statements of a source in the listing of its program: what they call, their operands, and
-- what the listed ones come to.
use Rattle.std.specs.Prelude.{◌≡◌, ℕ, true, false, not, ◌&&◌, length, List, map, Option, Some}
use Rattle.std.specs.List.{AllByRecursion}
use Rattle.std.specs.Option.{option_map}
use Rattle.plc_base.specs.Kinds.{is_function_block}
use Rattle.plc_base.specs.declared.blocks.BlockId.{BlockId}
use Rattle.stl_ast.specs.Literals.{AreBytes}
use Rattle.stl_ast.specs.Statements.{has_actuals, is_empty_statement}
use Rattle.stl_ast.specs.declared.blocks.Block.{Block}
use Rattle.stl_ast.specs.declared.blocks.Tree.{Tree}
use Rattle.stl_ast.specs.declared.names.BlockName.TheVariants as block
use Rattle.stl_ast.specs.declared.operands.Operand.TheVariants as operand
use Rattle.stl_ast.specs.declared.statements.Statement.{Statement}
use Rattle.stl_symbols.specs.Symbol.{Symbol}
use Rattle.block_layout.specs.declared.blocks.BlockLayout.{BlockLayout}
use Rattle.stl_types.specs.Context.{Context}
use Rattle.stl_types.specs.Parameters.{Callee, callee_of}
use Rattle.stl_types.specs.ResolvedStatement.{resolved_operand}
use Rattle.stl_types.specs.declared.parameters.Formal.{Formal}
use Rattle.stl_types.specs.declared.resolved_operands.ResolvedOperand.TheVariants as resolved
use Rattle.stl_codegen.specs.Instruction.{source_block_at, in_parameter_order, instruction, passings_to}
use Rattle.stl_parser.specs.Operands.{data_block_name}
use Rattle.stl_list.specs.Signatures.{Signature, called_formals, formals_of_block}
use Rattle.stl_list.specs.Statements.{listed_statement}
use Rattle.sem_kept.specs.AcceptedSource.{IsAccepted, program_in}
use Rattle.listing_laws.specs.ListedSource.{IsMadeOf, IsWholeAgain, again_at, source_context_at}
use Rattle.listing_laws.specs.AgainBodies.{listing_context_again, body_again, made_block}
use Rattle.listing_laws.specs.ListedDeclarations.{signatures_in}
use Rattle.listing_laws.specs.Instructions.{IsInstructionKept, IsRightOperand}
use Rattle.listing_laws.specs.Passings.{AreAllPassed, AreNamedApart, AreRising, IsPassable, in_upper_case}
use Rattle.listing_laws.specs.Statements.{statement_offset, run_of}

-- what a statement of a source calls, `callee`, is found in its listing with the parameters that
-- the listing has, `called`, and what is passed fits there. `own` are the parameters of the block
-- that calls
pub record IsFoundAgain
    (c listed : Context) (own called : List Formal) (s : Statement) (id : BlockId)
    (instance : Option ℕ) (callee : Callee)
    : Type 0 where
  -- the called block as the rules find it in the listing
  pub found : Callee
  -- the operand that the listing has for the call finds this block
  pub is : callee_of listed
      (operand.Called (block.Number id) (option_map data_block_name instance)) ≡ Some found
  -- the block found in the listing has the kind and number of the one that the source calls
  pub same : found.id ≡ callee.id
  -- the block found in the listing has as many parameters as the one that the source calls
  pub size : length found.formals ≡ length callee.formals
  -- the parameters by their index are those that the listing has, with their names in upper case
  pub order : in_parameter_order (source_block_at listed.blocks found.place) found.formals
      ≡ map in_upper_case called
  -- no two of the parameters have one name, even in upper case
  pub named : AreNamedApart called
  -- what the call passes is for parameters of the listing, and fits there
  pub passable : AllByRecursion (IsPassable listed own called) (passings_to c s (Some callee))
  -- the passings stand by rising index, none twice
  pub rising : AreRising 0 (passings_to c s (Some callee))
  -- a CALL passes all parameters, unless it calls a function block
  pub complete : (has_actuals s.code && not (is_function_block callee.id.kind)) ≡ true
      → AreAllPassed called (passings_to c s (Some callee))

-- whatever block a statement of a source calls is found in the listing with the parameters that
-- `signatures` gives it, and what is passed fits there. `own` are the parameters that the block of
-- the statement has in the listing
abbrev pub IsCalledAgain : (c listed : Context) → List Signature → (own : List Formal) → Statement
    → Type 0
IsCalledAgain c listed signatures own s =
    (id : BlockId) (instance : Option ℕ) (callee : Callee)
    → resolved_operand c s ≡ Some (resolved.Called id instance) → callee_of c s.operand ≡ Some callee
    → IsFoundAgain c listed own (called_formals signatures id) s id instance callee

-- what each statement of an accepted source calls is found in the listing of its program, where no
-- block breaks a rule as a whole, with the parameters that the listing has; what is passed fits
-- there
abbrev pub AreCallsAgain : Type 0
AreCallsAgain =
    (source file : List ℕ) (symbols : List Symbol) (t : Tree)
    → IsAccepted source file symbols t → AreBytes source → AreBytes file → (others : List Symbol)
    → IsWholeAgain symbols t others → (again place : ℕ) (b : Block) (l : BlockLayout) (id : BlockId)
    → IsMadeOf symbols t again place b l id
    → AllByRecursion
    (IsCalledAgain (source_context_at symbols t place) (again_at symbols t others again)
    (signatures_in (program_in symbols t))
    (formals_of_block (signatures_in (program_in symbols t)) id))
    b.body

-- the operand of a statement, and those of its actual parameters, are right ones with the symbols
-- of the source
pub record IsRightStatement (symbols : List Symbol) (s : Statement) : Type 0 where
  -- the operand of the statement is a right one
  pub operand : IsRightOperand symbols s.operand
  -- the operand of each actual parameter is a right one
  pub actuals : AllByRecursion (λ a. IsRightOperand symbols a.value) s.actuals

-- the operands of all statements of an accepted source, and of their actual parameters, are right
-- ones
abbrev pub AreOperandsRight : Type 0
AreOperandsRight =
    (source file : List ℕ) (symbols : List Symbol) (t : Tree)
    → IsAccepted source file symbols t → AreBytes source
    → AllByRecursion (λ b. AllByRecursion (IsRightStatement symbols) b.body) t.blocks

-- each listed statement of an accepted source's program breaks no rule by its operand, and comes to
-- the instruction of the source's statement, at whatever number it stands; where no block of the
-- listing breaks a rule as a whole
abbrev pub AreStatementsAgain : Type 0
AreStatementsAgain =
    (source file : List ℕ) (symbols : List Symbol) (t : Tree)
    → IsAccepted source file symbols t → AreBytes source → AreBytes file → (others : List Symbol)
    → IsWholeAgain symbols t others → (again place : ℕ) (b : Block) (l : BlockLayout) (id : BlockId)
    → IsMadeOf symbols t again place b l id
    → AllByRecursion
    (λ s.
    is_empty_statement s.code ≡ false → (n k : ℕ)
    → IsInstructionKept (again_at symbols t others again)
    (body_again symbols t (made_block symbols t place b l id)) n s.code
    (instruction (source_context_at symbols t place) b.body n s)
    (listed_statement (listing_context_again symbols t (made_block symbols t place b l id)) k
    (run_of (statement_offset (made_block symbols t place b l id).statements)
    (instruction (source_context_at symbols t place) b.body n s))))
    b.body
