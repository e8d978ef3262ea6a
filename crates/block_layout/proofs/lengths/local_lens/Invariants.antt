use Rattle.std.proofs.Common.{◌≡◌, drop, ◌++◌, map}
use Rattle.block_layout.specs.Lengths.{local_len}
use Rattle.block_layout.proofs.lengths.local_lens.Given as goal

abbrev pub invariant-loop-i : goal.invariant-loop-i
invariant-loop-i l = l.lens.items ++ map (local_len l.types) (drop l.i l.blocks) ≡ map (local_len l.types) l.blocks
