-- How deep and how large the user-defined data types of a source are. A type may use another one,
-- so both are found by rounds: a round takes what the one before it gave for the types that are
-- used. Types that are sound are nested at most eight deep, so nine rounds settle them; one that
-- contains itself, or leads to one that does, is deeper than 8 in the ninth.
use Rattle.std.specs.Prelude.{ℕ, zero, suc, ◌+◌, min, max, List, [], ◌∷◌, map, if◌then◌else◌}
use Rattle.plc_base.specs.Kinds.{is_data_type}
use Rattle.stl_ast.specs.declared.blocks.Block.{Block}
use Rattle.stl_ast.specs.declared.declarations.Declaration.{Declaration}
use Rattle.stl_ast.specs.declared.blocks.PartKind.TheVariants as part
use Rattle.stl_symbols.specs.Symbol.{Symbol}
use Rattle.block_layout.specs.Around.{Outside, of_structure}
use Rattle.block_layout.specs.Blocks.{ids_of}
use Rattle.block_layout.specs.Cells.{cells_of}
use Rattle.block_layout.specs.Rule56.{own_depth, depth_around}
use Rattle.block_layout.specs.Sizes.{structure_bits}
use Rattle.block_layout.specs.Types.{Types}

-- the types with these depths, one for each block of the source
abbrev pub with_depths : Types → List ℕ → Types
with_depths y depths = record y { depths = depths }

-- the types with these sizes in bits, one for each block of the source
abbrev pub with_bits : Types → List ℕ → Types
with_bits y bits = record y { bits = bits }

-- the most structures and arrays that are open at a place in these declarations
abbrev pub deepest_nesting : Types → Outside → (before : List Declaration) → List Declaration → ℕ
deepest_nesting y o before [] = o.depth
deepest_nesting y o before (d ∷ ds) =
    max (depth_around y o d.level before + own_depth y d) (deepest_nesting y o (d ∷ before) ds)

-- all depths beyond 8 count as 9
abbrev pub capped_depth : ℕ → ℕ
capped_depth n = min n 9

-- the depth of a user-defined data type; that of another block is 0
unfoldable pub type_depth : Types → Block → ℕ
type_depth y b =
    if is_data_type b.kind then capped_depth (deepest_nesting y of_structure [] b.components) else 0

-- the size in bits of a user-defined data type; that of another block is 0
unfoldable pub type_bits : Types → Block → ℕ
type_bits y b =
    if is_data_type b.kind then structure_bits
    (cells_of y of_structure part.Static [] b.components) else 0

-- how many rounds settle the depths and sizes of all sound data types
abbrev pub measuring_rounds : ℕ
measuring_rounds = 9

-- the depths of all blocks after so many rounds
abbrev pub depths_after : ℕ → Types → List Block → List ℕ
depths_after zero y blocks = map (λ b. 0) blocks
depths_after (suc k) y blocks = map (type_depth (with_depths y (depths_after k y blocks))) blocks

-- the sizes in bits of all blocks after so many rounds
abbrev pub bits_after : ℕ → Types → List Block → List ℕ
bits_after zero y blocks = map (λ b. 0) blocks
bits_after (suc k) y blocks = map (type_bits (with_bits y (bits_after k y blocks))) blocks

-- what is known before the types are measured
abbrev pub unmeasured_types : List Symbol → List Block → Types
unmeasured_types symbols blocks = record {
  symbols = symbols;
  ids = ids_of symbols blocks;
  depths = [];
  bits = [];
}

-- the types with their depths after the last round
unfoldable pub with_all_depths : Types → List Block → Types
with_all_depths y blocks = with_depths y (depths_after measuring_rounds y blocks)

-- the types with their sizes in bits after the last round
unfoldable pub with_all_bits : Types → List Block → Types
with_all_bits y blocks = with_bits y (bits_after measuring_rounds y blocks)

-- what is known of the types of a source, depths and sizes in bits measured
unfoldable pub types_of_source : List Symbol → List Block → Types
types_of_source symbols blocks =
    with_all_bits (with_all_depths (unmeasured_types symbols blocks) blocks) blocks
