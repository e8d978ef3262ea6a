-- The rules that are checked with the layout, by their numbers.
use Rattle.std.specs.Prelude.{List, ◌++◌}
use Rattle.plc_base.specs.declared.refusals.Refusal.{Refusal}
use Rattle.stl_ast.specs.declared.blocks.Block.{Block}
use Rattle.stl_ast.specs.declared.blocks.Tree.{Tree}
use Rattle.stl_symbols.specs.Symbol.{Symbol}
use Rattle.block_layout.specs.declared.blocks.BlockLayout.{BlockLayout}
use Rattle.block_layout.specs.Layouts.{layouts_of}
use Rattle.block_layout.specs.Measures.{types_of_source}
use Rattle.block_layout.specs.Rule21.{rule_21}
use Rattle.block_layout.specs.Rule22.{rule_22}
use Rattle.block_layout.specs.Rule23.{rule_23}
use Rattle.block_layout.specs.Rule41.{rule_41}
use Rattle.block_layout.specs.Rule42.{rule_42}
use Rattle.block_layout.specs.Rule43.{rule_43}
use Rattle.block_layout.specs.Rule44.{rule_44}
use Rattle.block_layout.specs.Rule50.{rule_50}
use Rattle.block_layout.specs.Rule51.{rule_51}
use Rattle.block_layout.specs.Rule52.{rule_52}
use Rattle.block_layout.specs.Rule53.{rule_53}
use Rattle.block_layout.specs.Rule54.{rule_54}
use Rattle.block_layout.specs.Rule55.{rule_55}
use Rattle.block_layout.specs.Rule56.{rule_56}
use Rattle.block_layout.specs.Types.{Types}

-- all refusals of the blocks of a source, by the rules in order
unfoldable pub refusals_of_blocks : Types → List BlockLayout → List Block → List Refusal
refusals_of_blocks y l blocks =
    rule_21 blocks  -- a name declared twice in one list
    ++ rule_22 y blocks  -- a block twice
    ++ rule_23 y blocks  -- an unknown block or user-defined data type
    ++ rule_41 l blocks  -- an initial value that doesn't fit
    ++ rule_42 y l blocks  -- an array with the upper below the lower bound, or an index outside
    ++ rule_43 y blocks  -- a user-defined data type that contains itself
    ++ rule_44 y.symbols blocks  -- a block number beyond the limits
    ++ rule_50 y blocks  -- local data above 1,024 bytes
    ++ rule_51 y blocks  -- a data block, data type or instance above 16,384 bytes
    ++ rule_52 blocks  -- more than 60 parameters
    ++ rule_53 blocks  -- the 257th data block
    ++ rule_54 y blocks  -- data blocks above 2,097,152 bytes together
    ++ rule_55 blocks  -- more than 65,534 statements
    ++ rule_56 y blocks  -- types nested deeper than 8

-- all refusals of a source by these rules, with its symbols
unfoldable pub layout_refusals : Tree → List Symbol → List Refusal
layout_refusals t symbols =
    refusals_of_blocks (types_of_source symbols t.blocks) (layouts_of t symbols) t.blocks
