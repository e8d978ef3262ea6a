-- The code blocks of a listing come to those of the program, where the statements of each do.
use Rattle.std.specs.Prelude.{◌≡◌, ℕ, List, map}
use Rattle.plc_base.specs.declared.blocks.BlockId.{BlockId}
use Rattle.stl_ast.specs.Literals.{AreBytes}
use Rattle.stl_ast.specs.declared.blocks.Block.{Block}
use Rattle.stl_ast.specs.declared.blocks.Tree.{Tree}
use Rattle.stl_ast.specs.declared.statements.Statement.{Statement}
use Rattle.stl_symbols.specs.Symbol.{Symbol}
use Rattle.block_layout.specs.Layouts.{layouts_of}
use Rattle.block_layout.specs.declared.blocks.BlockLayout.{BlockLayout}
use Rattle.stl_codegen.specs.CompiledBlock.{StatedBlock, compiled_block, lines_in}
use Rattle.stl_codegen.specs.GeneratedProgram.{code_block, code_blocks_of, instructions_from}
use Rattle.stl_list.specs.Statements.{ListingContext, body_of, listing_context}
use Rattle.sem_kept.specs.AcceptedSource.{IsAccepted, program_in}
use Rattle.listing_laws.specs.ListedSource.{IsMadeOf, IsWholeAgain, again_at, listed_tree_again, source_context_at}
use Rattle.listing_laws.specs.ListedDeclarations.{signatures_in}
use Rattle.listing_laws.specs.ListedBodies.{AreKeptFrom}
use Rattle.listing_laws.specs.Statements.{statement_offset}

-- the code block of a block of the source at a place
abbrev pub made_block : (symbols : List Symbol) → Tree → (place : ℕ) → Block → BlockLayout → BlockId
    → StatedBlock
made_block symbols t place b l id = code_block (source_context_at symbols t place) b l id

-- the body that the listing of a source's program has for a code block, `x`, where this stands on
-- its own lines
abbrev pub body_again : (symbols : List Symbol) → Tree → StatedBlock → List Statement
body_again symbols t x =
    body_of (signatures_in (program_in symbols t)) (lines_in x.statements) (compiled_block x)

-- what the statements refer to in the body that the listing of a source's program has for a code
-- block, `x`
abbrev pub listing_context_again : (symbols : List Symbol) → Tree → StatedBlock → ListingContext
listing_context_again symbols t x =
    listing_context (signatures_in (program_in symbols t)) (lines_in x.statements)
    (compiled_block x)

-- each listed statement of a block of the source comes to its instruction, at its place in the
-- listing
abbrev pub IsBodyKept : (symbols : List Symbol) → Tree → (others : List Symbol) → (again place : ℕ)
    → Block → BlockLayout → BlockId → Type 0
IsBodyKept symbols t others again place b l id =
    AreKeptFrom (again_at symbols t others again)
    (body_again symbols t (made_block symbols t place b l id))
    (listing_context_again symbols t (made_block symbols t place b l id))
    (statement_offset (made_block symbols t place b l id).statements) 0
    (instructions_from (source_context_at symbols t place) b.body 0 b.body)

-- in each listed body of a source's program each statement comes to the instruction that it was
-- made of
abbrev pub AreBodiesKeptIn : (symbols : List Symbol) → Tree → (others : List Symbol) → Type 0
AreBodiesKeptIn symbols t others =
    (again place : ℕ) (b : Block) (l : BlockLayout) (id : BlockId)
    → IsMadeOf symbols t again place b l id → IsBodyKept symbols t others again place b l id

-- in each listed body of an accepted source's program each statement comes to the instruction that
-- it was made of, where no block of the listing breaks a rule as a whole
abbrev pub AreBodiesKeptAgain : Type 0
AreBodiesKeptAgain =
    (source file : List ℕ) (symbols : List Symbol) (t : Tree)
    → IsAccepted source file symbols t → AreBytes source → AreBytes file → (others : List Symbol)
    → IsWholeAgain symbols t others → AreBodiesKeptIn symbols t others

-- where each listed statement comes to the instruction that it was made of, the code blocks of the
-- program of the listing are those of the accepted source's program
abbrev pub AreCodeBlocksKept : Type 0
AreCodeBlocksKept =
    (source file : List ℕ) (symbols : List Symbol) (t : Tree)
    → IsAccepted source file symbols t → AreBytes source → AreBytes file → (others : List Symbol)
    → AreBodiesKeptIn symbols t others
    → map compiled_block
    (code_blocks_of (listed_tree_again symbols t) others
    (layouts_of (listed_tree_again symbols t) others))
    ≡ (program_in symbols t).code_blocks
