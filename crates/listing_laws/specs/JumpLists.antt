-- The jump lists of a listing.
use Rattle.std.specs.Prelude.{◌≡◌, ℕ, List, [], Some, slice_get}
use Rattle.plc_base.specs.declared.blocks.BlockId.{BlockId}
use Rattle.stl_ast.specs.Literals.{AreBytes}
use Rattle.stl_ast.specs.declared.blocks.Block.{Block}
use Rattle.stl_ast.specs.declared.blocks.Tree.{Tree}
use Rattle.stl_symbols.specs.Symbol.{Symbol}
use Rattle.block_layout.specs.declared.blocks.BlockLayout.{BlockLayout}
use Rattle.stl_types.specs.Lists.{lists_from}
use Rattle.sem_kept.specs.AcceptedSource.{IsAccepted}
use Rattle.listing_laws.specs.ListedSource.{IsMadeOf, listed_tree_again}

-- each JL in a listed body of an accepted source has its list
abbrev pub AreListsKept : Type 0
AreListsKept =
    (source file : List ℕ) (symbols : List Symbol) (t : Tree)
    → IsAccepted source file symbols t → AreBytes source → AreBytes file
    → (again place : ℕ) (b : Block) (l : BlockLayout) (id : BlockId)
    → IsMadeOf symbols t again place b l id
    → (x : Block) → slice_get (listed_tree_again symbols t).blocks again ≡ Some x
    → lists_from [] x.body ≡ []
