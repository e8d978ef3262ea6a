-- The blocks of a listing by kind and number: those of its program, each found at its place.
use Rattle.std.specs.Prelude.{◌≡◌, ℕ, List, [], ◌++◌, map, is_some, Some, slice_get, false}
use Rattle.plc_base.specs.Kinds.{is_data_type}
use Rattle.plc_base.specs.declared.blocks.BlockId.{BlockId}
use Rattle.plc_base.specs.declared.blocks.BlockKind.TheVariants as kinds
use Rattle.flat_code.specs.Programs.{Program}
use Rattle.stl_ast.specs.declared.blocks.Tree.{Tree}
use Rattle.stl_symbols.specs.Symbol.{Symbol}
use Rattle.block_layout.specs.Blocks.{ids_of, known_block}
use Rattle.block_layout.specs.Measures.{types_of_source}
use Rattle.block_layout.specs.Rule22.{rule_22}
use Rattle.block_layout.specs.Rule44.{rule_44}
use Rattle.stl_list.specs.CodeBlocks.{in_lines}
use Rattle.stl_list.specs.Listing.{listed_tree}
use Rattle.sem_kept.specs.AcceptedSource.{program_in}

-- a data block by its number
abbrev pub data_id_of_number : ℕ → BlockId
data_id_of_number number = record { kind = kinds.Db; number = number }

-- the blocks of a program in the order in which a listing has them
abbrev pub program_ids : Program → List BlockId
program_ids p =
    map (λ b. b.id) (in_lines p.code_blocks) ++ map (λ d. data_id_of_number d.number) p.data_blocks

-- a listing has the blocks of its program, whatever symbols there are
abbrev pub AreIdsListed : Type 0
AreIdsListed =
    (symbols : List Symbol) (p : Program)
    → ids_of symbols (listed_tree p).blocks ≡ map (λ id. Some id) (program_ids p)

-- a block that the source has, the listing has, and no other; but user-defined data types
abbrev pub AreBlocksKept : Type 0
AreBlocksKept =
    (t : Tree) (symbols listed : List Symbol) (id : BlockId) → is_data_type id.kind ≡ false
    → is_some (known_block id (ids_of listed (listed_tree (program_in symbols t)).blocks))
    ≡ is_some (known_block id (ids_of symbols t.blocks))

-- where the source has no block twice, and no number beyond the limits, each block of its program
-- is found at its place in the listing
abbrev pub AreBlocksFound : Type 0
AreBlocksFound =
    (t : Tree) (symbols listed : List Symbol) (k : ℕ) (id : BlockId)
    → rule_22 (types_of_source symbols t.blocks) t.blocks ≡ [] → rule_44 symbols t.blocks ≡ []
    → slice_get (program_ids (program_in symbols t)) k ≡ Some id
    → known_block id (ids_of listed (listed_tree (program_in symbols t)).blocks) ≡ Some k

-- a listing has no user-defined data types to measure
abbrev pub HasNoTypes : Type 0
HasNoTypes =
    (t : Tree) (symbols listed : List Symbol)
    → types_of_source listed (listed_tree (program_in symbols t)).blocks
    ≡ record {
      symbols = listed;
      ids = map (λ id. Some id) (program_ids (program_in symbols t));
      depths = map (λ b. 0) (listed_tree (program_in symbols t)).blocks;
      bits = map (λ b. 0) (listed_tree (program_in symbols t)).blocks;
    }
