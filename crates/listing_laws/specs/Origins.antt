-- Where the data blocks of a program stand in its listing.
use Rattle.std.specs.Prelude.{◌≡◌, ◌+◌, ℕ, length, Some, slice_get}
use Rattle.flat_code.specs.Programs.{DataBlock, Program}
use Rattle.stl_list.specs.CodeBlocks.{in_lines, line_reached}
use Rattle.stl_list.specs.DataBlocks.{listed_data}
use Rattle.stl_list.specs.Listing.{listed_tree}
use Rattle.listing_laws.specs.ListedDeclarations.{signatures_in}

-- each data block of a program stands in its listing in the order of the program behind the code
-- blocks, on the line that these reach
abbrev pub AreDataListed : Type 0
AreDataListed =
    (p : Program) (j : ℕ) (d : DataBlock) → slice_get p.data_blocks j ≡ Some d
    → slice_get (listed_tree p).blocks (length p.code_blocks + j)
    ≡ Some
    (listed_data (signatures_in p) (line_reached 1 (in_lines p.code_blocks)) d.number d.bytes
    d.instance_of)
