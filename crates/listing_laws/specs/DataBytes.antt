-- The data blocks of a listing have their bytes again.
use Rattle.std.specs.Prelude.{◌≡◌, ◌<◌, ◌≤◌, ℕ, false, List, length, Some, None, slice_get}
use Rattle.std.specs.List.{AllByRecursion}
use Rattle.stl_ast.specs.declared.blocks.Block.{Block}
use Rattle.block_layout.specs.Cells.{components_of}
use Rattle.block_layout.specs.InitialBytes.{initial_bytes, length_at}
use Rattle.block_layout.specs.Paths.{cells_at, structure_of}
use Rattle.block_layout.specs.Types.{Types}
use Rattle.block_layout.specs.declared.blocks.BlockLayout.{BlockLayout}
use Rattle.stl_list.specs.DataBlocks.{listed_data}
use Rattle.stl_list.specs.Signatures.{Signature}

-- a listed data block with a structure of its own, which is whole at its place in a source and as
-- long as its bytes are many, has these as its initial bytes
abbrev pub AreOwnBytesAgain : Type 0
AreOwnBytesAgain =
    (y : Types) (l : List BlockLayout) (blocks : List Block) (k : ℕ) (ss : List Signature)
    (line number : ℕ) (bytes : List ℕ) → structure_of l k ≡ Some k
    → cells_at l k false ≡ components_of y (listed_data ss line number bytes None)
    → length_at (slice_get l k) ≡ length bytes
    → slice_get blocks k ≡ Some (listed_data ss line number bytes None)
    → AllByRecursion (λ b. b < 256) bytes → length bytes ≤ 65536
    → initial_bytes l blocks k ≡ bytes
