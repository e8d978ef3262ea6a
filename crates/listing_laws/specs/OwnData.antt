-- The data blocks with a structure of their own, in the listing of an accepted source's program.
use Rattle.std.specs.Prelude.{◌≡◌, ℕ, false, List, [], ◌∷◌, length, Some, None, slice_get}
use Rattle.std.specs.List.{AllByRecursion}
use Rattle.flat_code.specs.Programs.{DataBlock}
use Rattle.stl_ast.specs.Literals.{AreBytes}
use Rattle.stl_ast.specs.declared.blocks.Block.{Block}
use Rattle.stl_ast.specs.declared.blocks.Tree.{Tree}
use Rattle.stl_symbols.specs.Symbol.{Symbol}
use Rattle.block_layout.specs.Layouts.{layouts_of}
use Rattle.block_layout.specs.Lengths.{length_of_block}
use Rattle.block_layout.specs.Rule51.{is_too_long}
use Rattle.block_layout.specs.Types.{Types}
use Rattle.block_layout.specs.declared.blocks.BlockLayout.{BlockLayout}
use Rattle.stl_types.specs.Bodies.{first_context}
use Rattle.stl_codegen.specs.GeneratedProgram.{data_block_of, data_blocks_of}
use Rattle.stl_list.specs.DataBlocks.{listed_data}
use Rattle.stl_list.specs.Listing.{listed_tree}
use Rattle.stl_list.specs.Signatures.{Signature}
use Rattle.sem_kept.specs.AcceptedSource.{IsAccepted, program_in}
use Rattle.listing_laws.specs.ListedDeclarations.{signatures_in}

-- a data block with a structure of its own, listed, is as long as it was and not too long, whatever
-- stands beside it (rule 51); and where it stands in a source and breaks no rule as a whole, the
-- program of that source has it again, with its number and its bytes
pub record IsOwnDataAgain (ss : List Signature) (d : DataBlock) : Type 0 where
  -- the listed block has as many bytes as the data block
  pub length : (y : Types) (blocks : List Block) (line : ℕ)
      → length_of_block y blocks (listed_data ss line d.number d.bytes None) ≡ length d.bytes
  -- the listed block has at most 16,384 bytes
  pub by_51 : (y : Types) (blocks : List Block) (line : ℕ)
      → is_too_long y blocks (listed_data ss line d.number d.bytes None) ≡ false
  -- where it stands in a source and breaks no rule as a whole, the program of the source has it
  pub again : (symbols : List Symbol) (t : Tree) (k line : ℕ) (l : BlockLayout)
      → slice_get t.blocks k ≡ Some (listed_data ss line d.number d.bytes None)
      → slice_get (layouts_of t symbols) k ≡ Some l → l.broken ≡ false
      → data_block_of (record (first_context symbols (layouts_of t symbols) t.blocks) { block = k })
      l l.id ≡ d ∷ []

-- each data block with a structure of its own, in an accepted source's program, is listed as long
-- as it was, and comes again from its listing with its number and its bytes
abbrev pub AreOwnDataAgain : Type 0
AreOwnDataAgain =
    (source file : List ℕ) (symbols : List Symbol) (t : Tree)
    → IsAccepted source file symbols t → AreBytes source → AreBytes file
    → AllByRecursion
    (λ d. d.instance_of ≡ None → IsOwnDataAgain (signatures_in (program_in symbols t)) d)
    (program_in symbols t).data_blocks

-- a data block that is one of some
pub record IsOneOfDataBlocks (d : DataBlock) (ds : List DataBlock) : Type 0 where
  -- the place of the data block among these
  pub place : ℕ
  -- the data block stands at this place
  pub there : slice_get ds place ≡ Some d

-- each data block with a structure of its own, in an accepted source's program, is among the data
-- blocks of the program of its listing, where no block of the listing breaks a rule as a whole
abbrev pub AreOwnDataKept : Type 0
AreOwnDataKept =
    (source file : List ℕ) (symbols : List Symbol) (t : Tree)
    → IsAccepted source file symbols t → AreBytes source → AreBytes file → (others : List Symbol)
    → AllByRecursion (λ l. l.broken ≡ false)
    (layouts_of (listed_tree (program_in symbols t)) others)
    → AllByRecursion
    (λ d. d.instance_of ≡ None
    → IsOneOfDataBlocks d
    (data_blocks_of (listed_tree (program_in symbols t)) others
    (layouts_of (listed_tree (program_in symbols t)) others)))
    (program_in symbols t).data_blocks
