-- The types of a source's parameters, in the listing of its program. What a source "owes" for types
-- is what must hold of its bodies and calls, so that its program hands the types on at each call.
use Rattle.std.specs.Prelude.{◌≡◌, ℕ, suc, true, List, [], ◌∷◌, length, map, Option, Some}
use Rattle.std.specs.List.{AllByRecursion}
use Rattle.plc_base.specs.Kinds.{is_code}
use Rattle.plc_base.specs.declared.blocks.BlockId.{BlockId}
use Rattle.flat_code.specs.Programs.{CodeBlock}
use Rattle.stl_ast.specs.declared.blocks.Block.{Block}
use Rattle.stl_ast.specs.declared.blocks.Tree.{Tree}
use Rattle.stl_ast.specs.declared.declarations.Simple.{Simple}
use Rattle.stl_ast.specs.declared.statements.Statement.{Statement}
use Rattle.stl_symbols.specs.Symbol.{Symbol}
use Rattle.block_layout.specs.declared.blocks.BlockLayout.{BlockLayout}
use Rattle.stl_types.specs.Bodies.{first_context}
use Rattle.stl_types.specs.Context.{Context}
use Rattle.stl_types.specs.ResolvedStatement.{resolved_operand}
use Rattle.stl_types.specs.declared.resolved_operands.ResolvedOperand.TheVariants as resolved
use Rattle.stl_codegen.specs.CompiledBlock.{compiled_block}
use Rattle.stl_codegen.specs.GeneratedProgram.{code_blocks_of, params_of, program_of}
use Rattle.listing_laws.specs.Chains.{AreTypesAsDeclared}
use Rattle.listing_laws.specs.HandedTypes.{BlocksHandTypesOn, CallOwesTypes, SeesOwn, declared_type_in}

-- what a source owes for a statement: if it calls a block, what is owed for this call
abbrev pub StatementOwesTypes :
    (kinds : BlockId → List Simple) → List CodeBlock → Context → Statement → Type 0
StatementOwesTypes kinds all c s =
    (id : BlockId) (instance : Option ℕ) → resolved_operand c s ≡ Some (resolved.Called id instance)
    → CallOwesTypes kinds all c s id

-- a code block of a source: the types are those of its parameters, which its body sees so, and each
-- statement owes what it calls
pub record BodyOwesTypes
    (kinds : BlockId → List Simple) (all : List CodeBlock) (c : Context) (b : Block)
    (l : BlockLayout) (id : BlockId)
    : Type 0 where
  -- there are as many types as parameters
  pub size : length (kinds id) ≡ length (params_of b l)
  -- the body sees each parameter with its type
  pub sees : SeesOwn c (kinds id)
  -- of each call in the body holds what the source owes for it
  pub statements : AllByRecursion (StatementOwesTypes kinds all c) b.body

-- what a source owes for its code blocks, given the blocks with their layouts, of which the first
-- has its place in the context: each body sees its parameters with these types, and each statement
-- owes what it calls
abbrev pub BodiesOweTypes :
    (kinds : BlockId → List Simple) → List CodeBlock → Context → List Block → List BlockLayout
    → Type 0
BodiesOweTypes kinds all c [] ls = Unit {0}
BodiesOweTypes kinds all c (b ∷ bs) [] = Unit {0}
BodiesOweTypes kinds all c (b ∷ bs) (l ∷ ls) =
    ((id : BlockId) → l.id ≡ Some id → is_code id.kind ≡ true → BodyOwesTypes kinds all c b l id)
    × BodiesOweTypes kinds all (record c { block = suc c.block }) bs ls

-- what a source owes for the types of its parameters: each body sees its parameters with these
-- types, and each statement owes what it calls
abbrev pub SourceOwesTypes :
    (kinds : BlockId → List Simple) → Tree → List Symbol → List BlockLayout → Type 0
SourceOwesTypes kinds t symbols layouts =
    BodiesOweTypes kinds (map compiled_block (code_blocks_of t symbols layouts))
    (first_context symbols layouts t.blocks) t.blocks layouts

-- where what a source owes for the types of its parameters holds, the calls of its program hand
-- these on
abbrev pub AreSourcesHandedOn : Type 0
AreSourcesHandedOn =
    (kinds : BlockId → List Simple) (t : Tree) (symbols : List Symbol) (layouts : List BlockLayout)
    → SourceOwesTypes kinds t symbols layouts
    → BlocksHandTypesOn kinds (code_blocks_of t symbols layouts)

-- where what a source owes for the types of its parameters holds, what the listing of its program
-- says is INT or TIME was so in the source, widths stay, and both ends of a passing have one type
abbrev pub AreSourceTypesKept : Type 0
AreSourceTypesKept =
    (kinds : BlockId → List Simple) (t : Tree) (symbols : List Symbol) (layouts : List BlockLayout)
    → SourceOwesTypes kinds t symbols layouts
    → AreTypesAsDeclared (program_of t symbols layouts).code_blocks
    (declared_type_in kinds (program_of t symbols layouts).code_blocks)
