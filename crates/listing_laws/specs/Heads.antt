-- The heads of a listing: no block stands twice, and no number is beyond the limits.
use Rattle.std.specs.Prelude.{◌≡◌, List, []}
use Rattle.stl_ast.specs.declared.blocks.Tree.{Tree}
use Rattle.stl_symbols.specs.Symbol.{Symbol}
use Rattle.block_layout.specs.Measures.{types_of_source}
use Rattle.block_layout.specs.Rule22.{rule_22}
use Rattle.block_layout.specs.Rule44.{rule_44}
use Rattle.stl_list.specs.Listing.{listed_tree}
use Rattle.sem_kept.specs.AcceptedSource.{program_in}

-- where a source has no block twice, the listing of its program has none twice
abbrev pub AreBlocksOnce : Type 0
AreBlocksOnce =
    (t : Tree) (symbols listed : List Symbol)
    → rule_22 (types_of_source symbols t.blocks) t.blocks ≡ []
    → rule_22 (types_of_source listed (listed_tree (program_in symbols t)).blocks)
    (listed_tree (program_in symbols t)).blocks ≡ []

-- where a source has no block with a number beyond the limits, the listing of its program has none
abbrev pub AreNumbersRight : Type 0
AreNumbersRight =
    (t : Tree) (symbols listed : List Symbol) → rule_44 symbols t.blocks ≡ []
    → rule_44 listed (listed_tree (program_in symbols t)).blocks ≡ []
