-- A listed CALL, UC or CC: its operand, its instruction, and the rules of what it calls.
use Rattle.std.specs.Prelude.{◌≡◌, ℕ, true, false, List, length, Option, Some, None, slice_get}
use Rattle.std.specs.Option.{option_map}
use Rattle.plc_base.specs.Kinds.{is_callable}
use Rattle.plc_base.specs.declared.blocks.BlockId.{BlockId}
use Rattle.flat_code.specs.Instr.{Passing, Calls}
use Rattle.flat_code.specs.declared.operations.CallOperation.{CallOperation}
use Rattle.stl_ast.specs.declared.mnemonics.Mnemonic.{Mnemonic}
use Rattle.stl_ast.specs.declared.names.BlockName.{BlockName}
use Rattle.stl_ast.specs.declared.names.BlockName.TheVariants as block
use Rattle.stl_ast.specs.declared.operands.Operand.TheVariants as operand
use Rattle.stl_ast.specs.declared.statements.Statement.{Statement}
use Rattle.block_layout.specs.Blocks.{named_block}
use Rattle.block_layout.specs.declared.blocks.BlockLayout.{BlockLayout}
use Rattle.block_layout.specs.declared.blocks.Shape.TheVariants as shape
use Rattle.stl_types.specs.Calls.{calls_unknown, has_no_instance, has_wrong_instance, is_bare_call}
use Rattle.stl_types.specs.Context.{Context, whole_data_place}
use Rattle.stl_types.specs.Parameters.{Callee, callee_of}
use Rattle.stl_types.specs.ResolvedStatement.{resolved_operand}
use Rattle.stl_types.specs.declared.parameters.Formal.{Formal}
use Rattle.stl_types.specs.declared.resolved_operands.ResolvedOperand.TheVariants as resolved
use Rattle.stl_codegen.specs.Instruction.{instruction}
use Rattle.stl_codegen.specs.Operations.{call_operation_of}
use Rattle.stl_codegen.specs.EmittedOps.{pass_ops}
use Rattle.stl_list.specs.Actuals.{actuals_before}
use Rattle.stl_list.specs.Lines.{line_of_statement}
use Rattle.stl_list.specs.Signatures.{called_formals}
use Rattle.stl_list.specs.Statements.{ListingContext, listed_statement}
use Rattle.stl_parser.specs.Operands.{data_block_name}
use Rattle.stl_list.specs.Operands.{operand_of_run}
use Rattle.listing_laws.specs.Passings.{IsListedCall}
use Rattle.listing_laws.specs.Statements.{run_of}

-- an instance has a number, and 0 is none
abbrev pub IsInstanceNumbered : Option ℕ → Type 0
IsInstanceNumbered instance = instance ≡ Some 0 → ⊥

-- a listed call names its block and its instance by their numbers
abbrev pub AreCallsListed : Type 0
AreCallsListed =
    (formals : List Formal) (starts : List ℕ) (f : ℕ → ℕ) (how : CallOperation) (id : BlockId)
    (instance : Option ℕ) (ps : List Passing) → is_callable id.kind ≡ true
    → IsInstanceNumbered instance
    → operand_of_run formals starts (run_of f (Calls how id instance ps))
    ≡ operand.Called (block.Number id) (option_map data_block_name instance)

-- a listed call has the instruction word of the source's statement, and its actual parameters are
-- made of the ops before the call
abbrev pub AreStatementsListed : Type 0
AreStatementsListed =
    (context : ListingContext) (n : ℕ) (f : ℕ → ℕ) (m : Mnemonic) (how : CallOperation)
    (id : BlockId) (instance : Option ℕ) (ps : List Passing) → is_callable id.kind ≡ true
    → call_operation_of m ≡ Some how
    → ((listed_statement context n (run_of f (Calls how id instance ps))).code ≡ m)
    × ((listed_statement context n (run_of f (Calls how id instance ps))).actuals
    ≡ actuals_before (line_of_statement context.lines n) context.formals
    (called_formals context.signatures id) (pass_ops ps))

-- a listed call that names its block and its instance comes to the instruction that it was made of:
-- the same block and instance, and the passings `ps` of its ops
abbrev pub AreCallsKept : Type 0
AreCallsKept =
    (c : Context) (body : List Statement) (n : ℕ) (s : Statement) (how : CallOperation)
    (id : BlockId)
    (instance : Option ℕ) (own called : List Formal) (callee : Callee) (ps : List Passing)
    → call_operation_of s.code ≡ Some how → resolved_operand c s ≡ Some (resolved.Called id instance)
    → callee_of c s.operand ≡ Some callee → IsListedCall c own called callee ps s
    → instruction c body n s ≡ Calls how id instance ps

-- rule 46: the call of a block by its number calls no unknown system function, where the source's
-- call of it called none
abbrev pub AreFunctionsKnown : Type 0
AreFunctionsKnown =
    (c other : Context) (name : BlockName) (id : BlockId) (instance others : Option BlockName)
    → named_block c.symbols name ≡ Some id → calls_unknown c (operand.Called name instance) ≡ false
    → calls_unknown other (operand.Called (block.Number id) others) ≡ false

-- rule 40: a listed call with the word, the block, the instance or none, and as many parameters as
-- the source's statement doesn't break it, where that one doesn't
abbrev pub AreCallsWhole : Type 0
AreCallsWhole =
    (callee other : Callee) (s listed : Statement) → listed.code ≡ s.code → other.id ≡ callee.id
    → has_no_instance listed.operand ≡ has_no_instance s.operand
    → length other.formals ≡ length callee.formals
    → is_bare_call callee s ≡ false → is_bare_call other listed ≡ false

-- a data block is an instance of a block at a place, if it is there
abbrev pub IsInstanceAt : Context → (place : Option ℕ) → Option BlockName → Type 0
IsInstanceAt c place None = Unit {0}
IsInstanceAt c place (Some name) =
    (k : ℕ) × (l : BlockLayout) × (p : ℕ) × (place ≡ Some p) × (whole_data_place c name ≡ Some k)
    × (slice_get c.layouts k ≡ Some l) × (l.shape ≡ shape.Of p)

-- rule 38: a call doesn't break it where the data block that it names, if it names one, is an
-- instance of the block that it calls
abbrev pub AreInstancesRight : Type 0
AreInstancesRight =
    (c : Context) (callee : Callee) (name : BlockName) (instance : Option BlockName)
    → IsInstanceAt c callee.place instance
    → has_wrong_instance c callee (operand.Called name instance) ≡ false
