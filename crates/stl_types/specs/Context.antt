-- What the operands of a body are resolved by.
use Rattle.std.specs.Prelude.{ℕ, Bool, false, List, map, Option, Some, None}
use Rattle.std.specs.List.{slice_get}
use Rattle.std.specs.Option.{option_map, option_and_then}
use Rattle.plc_base.specs.Kinds.{is_data_block, is_function}
use Rattle.plc_base.specs.declared.blocks.BlockId.{BlockId}
use Rattle.stl_ast.specs.declared.blocks.Block.{Block}
use Rattle.stl_ast.specs.declared.names.BlockName.{BlockName}
use Rattle.stl_symbols.specs.Symbol.{Symbol}
use Rattle.block_layout.specs.Blocks.{found_block, known_block}
use Rattle.block_layout.specs.Paths.{if_whole, whole_at}
use Rattle.block_layout.specs.declared.blocks.BlockLayout.{BlockLayout}

-- the symbols, the blocks of the source with their layouts, and the place of the block that has the
-- body
pub record Context : Type 0 where
  -- the symbols of the source
  pub symbols : List Symbol
  -- the blocks of the source, in the order of the text
  pub blocks : List Block
  -- the layouts of the blocks, in the order of `blocks`
  pub layouts : List BlockLayout
  -- the place of the block that has the body, from 0
  pub block : ℕ

-- the blocks of the source in order, by kind and number
abbrev pub source_block_ids : Context → List (Option BlockId)
source_block_ids c = map (λ b. b.id) c.layouts

-- the place of a block, where it doesn't break a rule itself
abbrev pub whole_place : Context → BlockId → Option ℕ
whole_place c id = option_and_then (if_whole c.layouts) (known_block id (source_block_ids c))

-- the place of the data block that a name means
abbrev pub data_place : Context → BlockName → Option ℕ
data_place c name = found_block c.symbols (source_block_ids c) is_data_block name

-- the place of the data block that a name means, where it doesn't break a rule itself
abbrev pub whole_data_place : Context → BlockName → Option ℕ
whole_data_place c name = option_and_then (if_whole c.layouts) (data_place c name)

-- the number of a block; none where there is no block
abbrev pub number_of_block : Option BlockId → Option ℕ
number_of_block id = option_map (λ i. i.number) id

-- the number of the data block that a name means, where it doesn't break a rule itself
abbrev pub data_number : Context → BlockName → Option ℕ
data_number c name =
    option_and_then (λ b. number_of_block b.id)
    (option_and_then (whole_at c.layouts) (data_place c name))

-- a block is a function
abbrev pub is_of_function : Option Block → Bool
is_of_function None = false
is_of_function (Some b) = is_function b.kind

-- the body is that of a function
abbrev pub in_function : Context → Bool
in_function c = is_of_function (slice_get c.blocks c.block)
