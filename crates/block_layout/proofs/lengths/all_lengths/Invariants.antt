use Rattle.std.proofs.Common.{◌≡◌, drop, ◌++◌, map}
use Rattle.block_layout.specs.Lengths.{length_of_block}
use Rattle.block_layout.proofs.lengths.all_lengths.Given as goal

abbrev pub invariant-loop-i : goal.invariant-loop-i
invariant-loop-i l = l.lens.items ++ map (length_of_block l.types l.blocks) (drop l.i l.blocks) ≡ map (length_of_block l.types l.blocks) l.blocks
