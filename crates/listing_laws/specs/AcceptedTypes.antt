-- The types that an accepted source declares for parameters.
use Rattle.std.specs.Prelude.{ℕ, List, [], Option, Some, None}
use Rattle.plc_base.specs.declared.blocks.BlockId.{BlockId}
use Rattle.stl_ast.specs.declared.blocks.Tree.{Tree}
use Rattle.stl_ast.specs.declared.declarations.Simple.{Simple}
use Rattle.stl_symbols.specs.Symbol.{Symbol}
use Rattle.block_layout.specs.Blocks.{known_block}
use Rattle.block_layout.specs.Layouts.{layouts_of}
use Rattle.stl_types.specs.Bodies.{first_context}
use Rattle.stl_types.specs.Context.{Context, source_block_ids}
use Rattle.stl_codegen.specs.GeneratedProgram.{program_of}
use Rattle.sem_kept.specs.AcceptedSource.{IsAccepted}
use Rattle.listing_laws.specs.Chains.{AreTypesAsDeclared}
use Rattle.listing_laws.specs.HandedTypes.{declared_type_in}
use Rattle.listing_laws.specs.OwnParameterTypes.{own_kinds}
use Rattle.listing_laws.specs.SourceTypes.{SourceOwesTypes}

-- the types of the parameters of the block at a place, by their index
abbrev pub kinds_at : Context → Option ℕ → List Simple
kinds_at c None = []
kinds_at c (Some place) = own_kinds (record c { block = place })

-- the types that a source declares for the parameters of a block, by their index; none where it has
-- no such block
abbrev pub declared_kinds : Tree → List Symbol → BlockId → List Simple
declared_kinds t symbols id =
    kinds_at (first_context symbols (layouts_of t symbols) t.blocks)
    (known_block id (source_block_ids (first_context symbols (layouts_of t symbols) t.blocks)))

-- the bodies of an accepted source see its parameters with the types that it declares, and what
-- they pass has these types
abbrev pub AreAcceptedTypesOwed : Type 0
AreAcceptedTypesOwed =
    (source file : List ℕ) (symbols : List Symbol) (t : Tree) → IsAccepted source file symbols t
    → SourceOwesTypes (declared_kinds t symbols) t symbols (layouts_of t symbols)

-- what the listing of an accepted source's program says is INT or TIME was so in the source, widths
-- stay, and both ends of a passing have one type
abbrev pub AreAcceptedTypesKept : Type 0
AreAcceptedTypesKept =
    (source file : List ℕ) (symbols : List Symbol) (t : Tree) → IsAccepted source file symbols t
    → AreTypesAsDeclared (program_of t symbols (layouts_of t symbols)).code_blocks
    (declared_type_in (declared_kinds t symbols)
    (program_of t symbols (layouts_of t symbols)).code_blocks)
