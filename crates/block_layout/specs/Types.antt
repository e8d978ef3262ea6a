-- What the declarations of a source are checked by.
use Rattle.std.specs.Prelude.{ℕ, List, Option}
use Rattle.plc_base.specs.Kinds.{is_data_type}
use Rattle.plc_base.specs.declared.blocks.BlockId.{BlockId}
use Rattle.stl_ast.specs.declared.names.BlockName.{BlockName}
use Rattle.stl_symbols.specs.Symbol.{Symbol}
use Rattle.block_layout.specs.Blocks.{found_block}

-- the symbols, the blocks by kind and number, and for each block, as a user-defined data type, how
-- deep its types are nested and how many bits it takes
pub record Types : Type 0 where
  -- the symbols of the source
  pub symbols : List Symbol
  -- of each block its kind and number; none where its symbol gives no block of its kind
  pub ids : List (Option BlockId)
  -- of each block, as a data type, how deep its types are nested
  pub depths : List ℕ
  -- of each block, as a data type, its size in bits
  pub bits : List ℕ

-- the place of the user-defined data type that a name means
abbrev pub data_type_place : Types → BlockName → Option ℕ
data_type_place y name = found_block y.symbols y.ids is_data_type name
