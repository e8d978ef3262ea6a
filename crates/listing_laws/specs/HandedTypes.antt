-- The types of the parameters of a source's blocks are handed on by its calls. What a source "owes"
-- for a call is what must hold of it there, so that the call hands the types on.
use Rattle.std.specs.Prelude.{◌≡◌, ◌||◌, ℕ, true, false, find, List, [], ◌∷◌, ◌++◌, length, map, Option, Some, slice_get, unwrap_or, if◌then◌else◌}
use Rattle.std.specs.List.{AllByRecursion, list_any}
use Rattle.std.specs.Str.{bytes_eq}
use Rattle.plc_base.specs.Kinds.{is_callable, is_same_block, is_system_function}
use Rattle.plc_base.specs.declared.blocks.BlockId.{BlockId}
use Rattle.flat_code.specs.Instr.{Instr, Passing, Calls}
use Rattle.flat_code.specs.Programs.{CodeBlock}
use Rattle.flat_code.specs.declared.operands.Passed.{Passed}
use Rattle.flat_code.specs.declared.operands.Passed.TheVariants as passed
use Rattle.stl_ast.specs.declared.blocks.PartKind.{PartKind}
use Rattle.stl_ast.specs.declared.declarations.Simple.{Simple}
use Rattle.stl_ast.specs.declared.declarations.Simple.TheVariants as simple
use Rattle.stl_ast.specs.declared.operands.Operand.{Operand}
use Rattle.stl_ast.specs.declared.statements.Actual.{Actual}
use Rattle.stl_ast.specs.declared.statements.Statement.{Statement}
use Rattle.stl_types.specs.Actuals.{formal_named}
use Rattle.stl_types.specs.Calls.{misfits_formal}
use Rattle.stl_types.specs.Context.{Context}
use Rattle.stl_types.specs.Parameters.{Callee, callee_of}
use Rattle.stl_types.specs.Resolution.{resolution_of}
use Rattle.stl_types.specs.ResolvedStatement.{resolved_operand}
use Rattle.stl_types.specs.declared.parameters.Formal.{Formal}
use Rattle.stl_types.specs.declared.resolved_operands.Resolution.TheVariants.{Resolved}
use Rattle.stl_types.specs.declared.resolved_operands.ResolvedOperand.TheVariants as resolved
use Rattle.stl_codegen.specs.CompiledBlock.{StatedBlock, compiled_block}
use Rattle.stl_codegen.specs.Instruction.{source_block_at, in_parameter_order, instruction, passings_to}
use Rattle.stl_list.specs.JoinedParameters.{links, total_parameter_count, system_parameters}
use Rattle.listing_laws.specs.Chains.{AreTypesAsDeclared, IsLinkBelow, IsKeptBy}

-- ---- types

-- the types of the parameters of blocks, one block behind the other
abbrev pub kinds_in : (kinds : BlockId → List Simple) → List CodeBlock → List Simple
kinds_in kinds [] = []
kinds_in kinds (b ∷ bs) = kinds b.id ++ kinds_in kinds bs

-- the type of a parameter by its number, counted over all blocks one behind the other, from 0 on;
-- BOOL where there is none
abbrev pub declared_type_in : (kinds : BlockId → List Simple) → List CodeBlock → ℕ → Simple
declared_type_in kinds blocks n = unwrap_or (slice_get (kinds_in kinds blocks) n) simple.Bool

-- the types of the parameters of a block that is called
abbrev pub called_kinds : (kinds : BlockId → List Simple) → BlockId → List Simple
called_kinds kinds id =
    if is_system_function id.kind then map (λ f. f.kind) (system_parameters id.number) else kinds id

-- a parameter is passed for one of the same type; what else is passed hands on no type
abbrev pub IsHandedOn : (own called : List Simple) → (index : ℕ) → Passed → Type 0
IsHandedOn own called index (passed.Parameter number width) =
    (kind : Simple) × (slice_get own number ≡ Some kind) × (slice_get called index ≡ Some kind)
IsHandedOn own called index _ = Unit {0}

-- a block that is called is one of these, or a system function
abbrev pub IsCallable : List CodeBlock → BlockId → Type 0
IsCallable blocks id =
    (is_callable id.kind ≡ true)
    × ((is_system_function id.kind
    || list_any (λ (b : CodeBlock). is_same_block b.id id) blocks) ≡ true)

-- an instruction hands on the types of the parameters of its block
abbrev pub HandsTypesOn :
    (kinds : BlockId → List Simple) → List CodeBlock → (own : List Simple) → Instr → Type 0
HandsTypesOn kinds blocks own (Calls how id instance ps) =
    IsCallable blocks id
    × AllByRecursion (λ p. IsHandedOn own (called_kinds kinds id) p.index p.actual) ps
HandsTypesOn kinds blocks own _ = Unit {0}

-- blocks with as many types as parameters, all of whose instructions hand these types on
pub record BlocksHandTypesOn
    (kinds : BlockId → List Simple) (blocks : List StatedBlock)
    : Type 0 where
  -- there are as many types as parameters
  pub lengths : AllByRecursion (λ (b : StatedBlock). length (kinds b.id) ≡ length b.params) blocks
  -- each instruction hands the types on
  pub calls : AllByRecursion
      (λ (b : StatedBlock).
      AllByRecursion (λ s. HandsTypesOn kinds (map compiled_block blocks) (kinds b.id) s.instr)
      b.statements)
      blocks

-- ---- links

-- where all instructions of blocks hand the types of parameters on, each link is of parameters that
-- are there, and of one type
abbrev pub AreLinksHandedOn : Type 0
AreLinksHandedOn =
    (kinds : BlockId → List Simple) (blocks : List StatedBlock) → BlocksHandTypesOn kinds blocks
    → AllByRecursion (IsLinkBelow (total_parameter_count (map compiled_block blocks)))
    (links (map compiled_block blocks))
    × AllByRecursion (IsKeptBy (declared_type_in kinds (map compiled_block blocks)))
    (links (map compiled_block blocks))

-- where all instructions of blocks hand the types of parameters on, a listing says of these types
-- what was declared
abbrev pub AreTypesListed : Type 0
AreTypesListed =
    (kinds : BlockId → List Simple) (blocks : List StatedBlock) → BlocksHandTypesOn kinds blocks
    → AreTypesAsDeclared (map compiled_block blocks)
    (declared_type_in kinds (map compiled_block blocks))

-- ---- calls of a source

-- what is seen as a parameter of the block itself has the type of that parameter
abbrev pub SeesOwn : Context → (own : List Simple) → Type 0
SeesOwn c own =
    (o : Operand) (index : ℕ) (section : PartKind) (kind : Simple)
    → resolution_of c o ≡ Resolved (resolved.Parameter index section kind)
    → slice_get own index ≡ Some kind

-- a parameter is found by its name
abbrev pub IsFoundAmong : List Formal → Formal → Type 0
IsFoundAmong formals f =
    (name : List ℕ) → bytes_eq name f.name ≡ true
    → find (λ (g : Formal). bytes_eq name g.name) formals ≡ Some f

-- the parameters of a called block by their index
abbrev pub formals_by_index : Context → Callee → List Formal
formals_by_index c callee =
    in_parameter_order (source_block_at c.blocks callee.place) callee.formals

-- where each actual parameter fits, by rule 37, a statement hands on the types of what it passes
abbrev pub ArePassedOn : Type 0
ArePassedOn =
    (c : Context) (own : List Simple) (callee : Callee) (s : Statement) → SeesOwn c own
    → AllByRecursion (IsFoundAmong callee.formals) (formals_by_index c callee)
    → AllByRecursion
    (λ (a : Actual). misfits_formal c a (formal_named callee.formals a.name) ≡ false) s.actuals
    → AllByRecursion
    (λ (p : Passing).
    IsHandedOn own (map (λ f. f.kind) (formals_by_index c callee)) p.index p.actual)
    (passings_to c s (Some callee))

-- what a source owes for a statement that calls a block: the block is there, its parameters are
-- found by their names and have these types, and what is passed for them fits
abbrev pub CallOwesTypes :
    (kinds : BlockId → List Simple) → List CodeBlock → Context → Statement → BlockId → Type 0
CallOwesTypes kinds blocks c s id =
    IsCallable blocks id
    × ((callee : Callee) → callee_of c s.operand ≡ Some callee
    → AllByRecursion (IsFoundAmong callee.formals) (formals_by_index c callee)
    × AllByRecursion
    (λ (a : Actual). misfits_formal c a (formal_named callee.formals a.name) ≡ false) s.actuals
    × (called_kinds kinds id ≡ map (λ f. f.kind) (formals_by_index c callee)))

-- the instruction of a statement hands types on, where its body sees its own parameters with their
-- types, and what a source owes for a call holds of the block that it calls
abbrev pub AreStatementsHandedOn : Type 0
AreStatementsHandedOn =
    (kinds : BlockId → List Simple) (blocks : List CodeBlock) (c : Context) (own : List Simple)
    (body : List Statement) (n : ℕ) (s : Statement) → SeesOwn c own
    → ((id : BlockId) (instance : Option ℕ) → resolved_operand c s ≡ Some (resolved.Called id instance)
    → CallOwesTypes kinds blocks c s id)
    → HandsTypesOn kinds blocks own (instruction c body n s)
