use Rattle.std.proofs.Common.{◌≡◌, drop, ◌++◌, map}
use Rattle.block_layout.specs.Measures.{type_bits}
use Rattle.block_layout.proofs.measures.next_bits.Given as goal

abbrev pub invariant-loop-block : goal.invariant-loop-block
invariant-loop-block l = l.bits.items ++ map (type_bits l.types) (drop l.block-index l.blocks) ≡ map (type_bits l.types) l.blocks
