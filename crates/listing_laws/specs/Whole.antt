-- No block of a listing breaks a rule as a whole, and none of its heads and declarations breaks
-- one.
use Rattle.std.specs.Prelude.{◌≡◌, ◌+◌, ℕ, List, [], length, Option, Some, None, slice_get}
use Rattle.stl_ast.specs.Literals.{AreBytes}
use Rattle.stl_ast.specs.declared.blocks.Block.{Block}
use Rattle.stl_ast.specs.declared.blocks.Tree.{Tree}
use Rattle.stl_symbols.specs.Symbol.{Symbol}
use Rattle.flat_code.specs.Programs.{CodeBlock, DataBlock, Program}
use Rattle.block_layout.specs.Around.{refusals_in_blocks}
use Rattle.block_layout.specs.Heads.{on_heads}
use Rattle.block_layout.specs.Layouts.{layouts_of}
use Rattle.block_layout.specs.Measures.{types_of_source}
use Rattle.block_layout.specs.Rule21.{rule_21}
use Rattle.block_layout.specs.Rule22.{rule_22}
use Rattle.block_layout.specs.Rule23.{refusals_23, has_unknown_head}
use Rattle.block_layout.specs.Rule41.{refusals_41}
use Rattle.block_layout.specs.Rule42.{refusals_42}
use Rattle.block_layout.specs.Rule43.{rule_43}
use Rattle.block_layout.specs.Rule44.{rule_44}
use Rattle.block_layout.specs.Rule50.{rule_50}
use Rattle.block_layout.specs.Rule51.{rule_51}
use Rattle.block_layout.specs.Rule52.{rule_52}
use Rattle.block_layout.specs.Rule53.{rule_53}
use Rattle.block_layout.specs.Rule54.{rule_54}
use Rattle.block_layout.specs.Rule55.{rule_55}
use Rattle.block_layout.specs.Rule56.{rule_56}
use Rattle.block_layout.specs.declared.blocks.BlockLayout.{BlockLayout}
use Rattle.block_layout.specs.declared.blocks.Shape.{Shape}
use Rattle.block_layout.specs.declared.blocks.Shape.TheVariants as shape
use Rattle.stl_list.specs.CodeBlocks.{in_lines, line_reached}
use Rattle.stl_list.specs.DataBlocks.{function_block, listed_data}
use Rattle.sem_kept.specs.AcceptedSource.{IsAccepted, program_in}
use Rattle.listing_laws.specs.ListedSource.{listed_tree_again}
use Rattle.listing_laws.specs.ListedDeclarations.{signatures_in}
use Rattle.listing_laws.specs.Ids.{data_id_of_number}

-- the heads and the declarations of blocks break no rule: of the rules of layouts this leaves out
-- those of settings and of operands
pub record AreBlocksRight (symbols : List Symbol) (blocks : List Block) : Type 0 where
  -- no name is declared twice in a list
  pub by_21 : rule_21 blocks ≡ []
  -- no block stands twice
  pub by_22 : rule_22 (types_of_source symbols blocks) blocks ≡ []
  -- no head of a block names an unknown block or data type
  pub heads_23 :
      on_heads (λ before b. has_unknown_head (types_of_source symbols blocks) b) 23 blocks ≡ []
  -- no declaration has an unknown data type
  pub declared_23 : refusals_in_blocks (refusals_23 (types_of_source symbols blocks)) blocks ≡ []
  -- initial values fit the types of their declarations
  pub declared_41 : refusals_in_blocks refusals_41 blocks ≡ []
  -- no array has its upper bound below its lower one
  pub declared_42 : refusals_in_blocks refusals_42 blocks ≡ []
  -- no data type contains itself
  pub by_43 : rule_43 (types_of_source symbols blocks) blocks ≡ []
  -- no block has a number beyond the limits of its kind
  pub by_44 : rule_44 symbols blocks ≡ []
  -- the local data of a block are at most 1,024 bytes
  pub by_50 : rule_50 (types_of_source symbols blocks) blocks ≡ []
  -- a data block, a data type and an instance are at most 16,384 bytes
  pub by_51 : rule_51 (types_of_source symbols blocks) blocks ≡ []
  -- a block has at most 60 parameters
  pub by_52 : rule_52 blocks ≡ []
  -- there are at most 256 data blocks
  pub by_53 : rule_53 blocks ≡ []
  -- the data blocks together are at most 2,097,152 bytes
  pub by_54 : rule_54 (types_of_source symbols blocks) blocks ≡ []
  -- a block has at most 65,534 statements
  pub by_55 : rule_55 blocks ≡ []
  -- no types are nested more than 8 deep
  pub by_56 : rule_56 (types_of_source symbols blocks) blocks ≡ []

-- the heads and the declarations of the listing of an accepted source's program break no rule,
-- whatever symbols stand beside it
abbrev pub AreBlocksRightAgain : Type 0
AreBlocksRightAgain =
    (source file : List ℕ) (symbols : List Symbol) (t : Tree)
    → IsAccepted source file symbols t → AreBytes source → AreBytes file → (others : List Symbol)
    → AreBlocksRight others (listed_tree_again symbols t).blocks

-- a data block of a program is an instance of the function block that a listing has at a place, and
-- as long as the structure of that one
pub record IsInstanceOf (p : Program) (number size : ℕ) (s : Shape) : Type 0 where
  -- the place of the function block among the listed code blocks
  pub place : ℕ
  -- the function block
  pub block : CodeBlock
  -- the function block stands at this place in the order of a listing
  pub there : slice_get (in_lines p.code_blocks) place ≡ Some block
  -- the function block has the number that the data block names
  pub id : block.id ≡ function_block number
  -- an instance of the function block has as many bytes as the data block
  pub length : block.instance_len ≡ size
  -- its structure is that of the function block at this place
  pub shape : s ≡ shape.Of place

-- a data block has its own structure, or that of the function block whose instance it is
abbrev pub HasShapeAgain : Program → DataBlock → Option ℕ → Shape → Type 0
HasShapeAgain p d None s = s ≡ shape.Own
HasShapeAgain p d (Some number) s = IsInstanceOf p number (length d.bytes) s

-- a data block of a program stands at a place in its listing: its number, its length and its shape
-- there
pub record IsDataAt (p : Program) (blocks : List Block) (layouts : List BlockLayout) (place : ℕ)
    (d : DataBlock) : Type 0 where
  -- the layout of the data block in the listing
  pub layout : BlockLayout
  -- the listed data block stands at this place
  pub block : slice_get blocks place
      ≡ Some (listed_data (signatures_in p) (line_reached 1 (in_lines p.code_blocks)) d.number
      d.bytes d.instance_of)
  -- the layout is the one at this place
  pub layout_is : slice_get layouts place ≡ Some layout
  -- the layout has the number of the data block
  pub id : layout.id ≡ Some (data_id_of_number d.number)
  -- the layout has as many bytes as the data block
  pub size : layout.length ≡ length d.bytes
  -- the layout has the structure of the data block: its own, or that of its function block
  pub shape : HasShapeAgain p d d.instance_of layout.shape

-- each data block of an accepted source's program stands in its listing, in the order of the
-- program behind the code blocks, with its number, its length and its shape
abbrev pub AreDataLaid : Type 0
AreDataLaid =
    (source file : List ℕ) (symbols : List Symbol) (t : Tree)
    → IsAccepted source file symbols t → AreBytes source → AreBytes file → (others : List Symbol)
    → (k : ℕ) (d : DataBlock) → slice_get (program_in symbols t).data_blocks k ≡ Some d
    → IsDataAt (program_in symbols t) (listed_tree_again symbols t).blocks
    (layouts_of (listed_tree_again symbols t) others)
    (length (program_in symbols t).code_blocks + k) d
