-- The layouts of a source: one of each block, in the order of the text.
use Rattle.std.specs.Prelude.{◌≡◌, Bool, ◌||◌, List, [], ◌∷◌, map, Option, Some, None, Result, Ok, Err}
use Rattle.std.specs.List.{slice_get}
use Rattle.std.specs.Option.{option_and_then}
use Rattle.plc_base.specs.declared.blocks.BlockId.{BlockId}
use Rattle.plc_base.specs.declared.refusals.Refusal.{Refusal}
use Rattle.plc_base.specs.declared.refusals.SourceFault.{SourceFault}
use Rattle.plc_base.specs.declared.refusals.SourceFault.TheVariants.{Refused, NoMemory}
use Rattle.stl_ast.specs.declared.blocks.Block.{Block}
use Rattle.stl_ast.specs.declared.blocks.Tree.{Tree}
use Rattle.stl_symbols.specs.Symbol.{Symbol}
use Rattle.block_layout.specs.declared.blocks.BlockLayout.{BlockLayout}
use Rattle.block_layout.specs.Blocks.{id_of, known_block}
use Rattle.block_layout.specs.Cells.{components_of, temps_of}
use Rattle.block_layout.specs.Lengths.{shape_of, local_len, length_of_block}
use Rattle.block_layout.specs.Measures.{types_of_source}
use Rattle.block_layout.specs.Rule22.{is_block_twice}
use Rattle.block_layout.specs.Rule23.{has_unknown_head}
use Rattle.block_layout.specs.Rule43.{contains_itself}
use Rattle.block_layout.specs.Rule44.{has_wrong_number}
use Rattle.block_layout.specs.Rule50.{has_too_much_local}
use Rattle.block_layout.specs.Rule51.{is_too_long}
use Rattle.block_layout.specs.Rule52.{has_too_many_parameters}
use Rattle.block_layout.specs.Rule53.{is_one_too_many}
use Rattle.block_layout.specs.Rule54.{exceeds_total}
use Rattle.block_layout.specs.Rule55.{has_too_many_statements}
use Rattle.block_layout.specs.Types.{Types}

-- a block breaks a rule as a whole, at its head: 22, 23, 43, 44 or 50 to 55
abbrev pub is_broken : Types → List Block → (before : List Block) → Block → Bool
is_broken y blocks before b =
    is_block_twice y before b || has_unknown_head y b || contains_itself y blocks before b
    || has_wrong_number y.symbols b || has_too_much_local y b || is_too_long y blocks b
    || has_too_many_parameters b || is_one_too_many before b || exceeds_total y blocks before b
    || has_too_many_statements b

-- the layout of a block, broken or not. `before` are the blocks before it, the nearest first
unfoldable pub block_layout : Types → List Block → (before : List Block) → Block → BlockLayout
block_layout y blocks before b = record {
  id = id_of y.symbols b;
  broken = is_broken y blocks before b;
  shape = shape_of y b;
  components = components_of y b;
  temps = temps_of y b;
  local_len = local_len y b;
  length = length_of_block y blocks b;
}

-- the layouts of the blocks that follow those in `before`
abbrev pub layouts_from : Types → List Block → (before : List Block) → List Block → List BlockLayout
layouts_from y blocks before [] = []
layouts_from y blocks before (b ∷ bs) =
    block_layout y blocks before b ∷ layouts_from y blocks (b ∷ before) bs

-- the layouts of all blocks, by what is known of the types of the source
unfoldable pub layouts_by : Types → List Block → List BlockLayout
layouts_by y blocks = layouts_from y blocks [] blocks

-- the layouts of a source with its symbols; what breaks a rule is marked in them
unfoldable pub layouts_of : Tree → List Symbol → List BlockLayout
layouts_of t symbols = layouts_by (types_of_source symbols t.blocks) t.blocks

-- the layout of the block of this kind and number; none where the source has no such block
abbrev pub layout_of : BlockId → List BlockLayout → Option BlockLayout
layout_of id l = option_and_then (slice_get l) (known_block id (map (λ b. b.id) l))

-- the layouts where no rule is broken, else the least refusal
abbrev pub LaysOut : Option Refusal → List BlockLayout → Result (List BlockLayout) SourceFault
    → Type 0
LaysOut least value (Ok l) = (least ≡ None) × (l ≡ value)
LaysOut least value (Err (Refused r)) = least ≡ Some r
LaysOut least value (Err NoMemory) = Unit {0}
