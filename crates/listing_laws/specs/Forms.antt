-- The forms of a listing: its data blocks, and its code blocks but for their statements, are ones
-- that are read back.
use Rattle.std.specs.Prelude.{◌≡◌, ℕ, true, List, [], None}
use Rattle.std.specs.List.{AllByRecursion}
use Rattle.plc_base.specs.Kinds.{is_code}
use Rattle.flat_code.specs.Image.{IsProgram}
use Rattle.flat_code.specs.Programs.{Program}
use Rattle.stl_ast.specs.WellFormed.{AreSectionsInOrder, MayReturn}
use Rattle.stl_ast.specs.declared.blocks.Block.{Block}
use Rattle.stl_list.specs.CodeBlocks.{in_lines, listed_blocks}
use Rattle.stl_list.specs.DataBlocks.{listed_data_blocks}
use Rattle.print_laws.specs.Reading.{IsPrintedLabel, IsNumberedBlockOf, IsPrintedBlock, IsPrintedPart}
use Rattle.stl_list.specs.Labels.{label_of_number}
use Rattle.listing_laws.specs.ListedDeclarations.{signatures_in}
use Rattle.listing_laws.specs.Ranges.{IsWrittenProgram}

-- a code block of a form that is read back, but for its statements
pub record IsPrintedFrame (b : Block) : Type 0 where
  -- the name of the block is its number, of its kind
  pub name : IsNumberedBlockOf b.kind b.name
  -- the block is an organization block, a function or a function block
  pub kind : is_code b.kind ≡ true
  -- only a function has a return value
  pub result : MayReturn b.kind b.result
  -- the sections stand in their order, each kind at most once
  pub order : AreSectionsInOrder 0 b.parts
  -- each section is one of a listing
  pub parts : AllByRecursion (IsPrintedPart b.kind) b.parts
  -- the block has no type; only data blocks and data types have one
  pub shape : b.shape ≡ None
  -- the block has no components of a structure
  pub components : b.components ≡ []
  -- the block isn't an instance data block
  pub instance : b.instance_of ≡ None
  -- the block has no settings of an instance
  pub settings : b.settings ≡ []

-- the data blocks of a listing are read back
abbrev pub AreDataPrinted : Type 0
AreDataPrinted =
    (p : Program) (line : ℕ) → IsProgram p → IsWrittenProgram p
    → AllByRecursion IsPrintedBlock (listed_data_blocks (signatures_in p) line p.data_blocks)

-- the code blocks of a listing, but for their statements, are of a form that is read back
abbrev pub AreFramesPrinted : Type 0
AreFramesPrinted =
    (p : Program) → IsProgram p → IsWrittenProgram p
    → AllByRecursion IsPrintedFrame
    (listed_blocks (signatures_in p) 1 (in_lines p.code_blocks))

-- a label that a listing makes is no keyword, and short
abbrev pub AreLabelsPrinted : Type 0
AreLabelsPrinted = (n : ℕ) → IsPrintedLabel (label_of_number n)
