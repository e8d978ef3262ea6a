use Rattle.std.proofs.Common.{◌≡◌, drop, ◌++◌, map}
use Rattle.block_layout.specs.Measures.{type_depth}
use Rattle.block_layout.proofs.measures.next_depths.Given as goal

abbrev pub invariant-loop-block : goal.invariant-loop-block
invariant-loop-block l = l.depths.items ++ map (type_depth l.types) (drop l.block-index l.blocks) ≡ map (type_depth l.types) l.blocks
