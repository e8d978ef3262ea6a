use Rattle.std.proofs.Common.{◌≡◌, drop, ◌++◌, map}
use Rattle.std.specs.List.{flat_map}
use Rattle.plc_base.specs.Least.{least, lesser}
use Rattle.block_layout.specs.Around.{refusals_in_block}
use Rattle.block_layout.specs.Facts.{outline_of}
use Rattle.block_layout.specs.Rule21.{refusals_21}
use Rattle.block_layout.specs.Rule56.{refusals_56}
use Rattle.block_layout.proofs.outlines.outline_all.Given as goal

abbrev pub invariant-loop-block : goal.invariant-loop-block
invariant-loop-block l = record {
  list : l.list.items ++ map (outline_of l.types) (drop l.block-index l.blocks) ≡ map (outline_of l.types) l.blocks;
  twice : lesser l.twice (least (flat_map (refusals_in_block refusals_21) (drop l.block-index l.blocks))) ≡ least (flat_map (refusals_in_block refusals_21) l.blocks);
  deep : lesser l.deep (least (flat_map (refusals_in_block (refusals_56 l.types)) (drop l.block-index l.blocks))) ≡ least (flat_map (refusals_in_block (refusals_56 l.types)) l.blocks);
}
