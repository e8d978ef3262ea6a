-- The listing of an accepted source's program as a source of its own: its tree, what its bodies are
-- checked by, and the blocks of the first source that its code blocks were made of.
use Rattle.std.specs.Prelude.{◌≡◌, ◌<◌, ℕ, true, false, List, length, Some, slice_get}
use Rattle.std.specs.List.{AllByRecursion}
use Rattle.plc_base.specs.Kinds.{is_code}
use Rattle.plc_base.specs.declared.blocks.BlockId.{BlockId}
use Rattle.stl_ast.specs.Literals.{AreBytes}
use Rattle.stl_ast.specs.declared.blocks.Block.{Block}
use Rattle.stl_ast.specs.declared.blocks.Tree.{Tree}
use Rattle.stl_symbols.specs.Symbol.{Symbol}
use Rattle.block_layout.specs.Layouts.{layouts_of}
use Rattle.block_layout.specs.declared.blocks.BlockLayout.{BlockLayout}
use Rattle.stl_types.specs.Bodies.{first_context}
use Rattle.stl_types.specs.Context.{Context}
use Rattle.stl_codegen.specs.CompiledBlock.{compiled_block}
use Rattle.stl_codegen.specs.GeneratedProgram.{code_block}
use Rattle.stl_list.specs.CodeBlocks.{in_lines, listed_block}
use Rattle.stl_list.specs.Listing.{listed_tree}
use Rattle.sem_kept.specs.AcceptedSource.{IsAccepted, program_in}
use Rattle.listing_laws.specs.ListedDeclarations.{signatures_in}
use Rattle.listing_laws.specs.Lines.{StandsBehind}

-- the tree of the listing of a source's program
abbrev pub listed_tree_again : (symbols : List Symbol) → Tree → Tree
listed_tree_again symbols t = listed_tree (program_in symbols t)

-- what the body of a block of a source is checked by, by the place of the block
abbrev pub source_context_at : (symbols : List Symbol) → Tree → (place : ℕ) → Context
source_context_at symbols t place =
    record (first_context symbols (layouts_of t symbols) t.blocks) { block = place }

-- what the body of a block of the listing is checked by, by the place of the block; `others` are
-- the symbols that stand beside the listing
abbrev pub again_at :
    (symbols : List Symbol) → Tree → (others : List Symbol) → (place : ℕ) → Context
again_at symbols t others place = source_context_at others (listed_tree_again symbols t) place

-- no block of the listing of a source's program breaks a rule as a whole; `others` are the symbols
-- that stand beside the listing
abbrev pub IsWholeAgain : (symbols : List Symbol) → Tree → (others : List Symbol) → Type 0
IsWholeAgain symbols t others =
    AllByRecursion (λ l. l.broken ≡ false) (layouts_of (listed_tree_again symbols t) others)

-- no block of the listing of an accepted source's program breaks a rule as a whole, whatever
-- symbols stand beside it
abbrev pub AreWholeAgain : Type 0
AreWholeAgain =
    (source file : List ℕ) (symbols : List Symbol) (t : Tree)
    → IsAccepted source file symbols t → AreBytes source → AreBytes file → (others : List Symbol)
    → IsWholeAgain symbols t others

-- a block of a source at a place, with its layout, and with code
pub record IsCodeAt (symbols : List Symbol) (t : Tree) (place : ℕ) (b : Block) (l : BlockLayout)
    (id : BlockId) : Type 0 where
  -- the block stands at this place of the source
  pub block : slice_get t.blocks place ≡ Some b
  -- the layout is that of the block at this place
  pub layout : slice_get (layouts_of t symbols) place ≡ Some l
  -- the layout has this kind and number for the block
  pub known : l.id ≡ Some id
  -- the block is an organization block, a function or a function block
  pub code : is_code id.kind ≡ true

-- the block of the listing at a place, `again`, was made of the block of the source at a place,
-- `place`, and stands on its lines
pub record IsMadeOf (symbols : List Symbol) (t : Tree) (again place : ℕ) (b : Block)
    (l : BlockLayout) (id : BlockId) : Type 0 where
  -- the block of the source stands at its place, with its layout, and has code
  pub source : IsCodeAt symbols t place b l id
  -- the code block that was made of it has this place in the order of a listing
  pub ordered : slice_get (in_lines (program_in symbols t).code_blocks) again
      ≡ Some (compiled_block (code_block (source_context_at symbols t place) b l id))
  -- the line that the listing has reached in front of the block
  pub reached : ℕ
  -- the block at the place in the listing is the listed code block
  pub listed : slice_get (listed_tree_again symbols t).blocks again
      ≡ Some (listed_block (signatures_in (program_in symbols t)) reached
      (compiled_block (code_block (source_context_at symbols t place) b l id)))
  -- the code block stands on its own lines behind the line that is reached
  pub stands : StandsBehind reached
      (compiled_block (code_block (source_context_at symbols t place) b l id))

-- each code block of the listing of an accepted source's program was made of one of the source
abbrev pub AreMadeOfSource : Type 0
AreMadeOfSource =
    (source file : List ℕ) (symbols : List Symbol) (t : Tree)
    → IsAccepted source file symbols t → AreBytes source → AreBytes file → (again : ℕ)
    → again < length (program_in symbols t).code_blocks
    → (place : ℕ) × (b : Block) × (l : BlockLayout) × (id : BlockId)
    × IsMadeOf symbols t again place b l id
