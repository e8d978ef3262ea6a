use Rattle.std.proofs.Common.{◌≡◌, drop, ◌≤◌}
use Rattle.block_layout.specs.Sizes.{array_bits}
use Rattle.block_layout.specs.Sizes.{largest_size}
use Rattle.block_layout.proofs.sizes.array_bits.Given as goal

abbrev pub invariant-loop-i : goal.invariant-loop-i
invariant-loop-i l = record { rest : l.bits ≡ array_bits (drop l.i l.bounds) l.element; near : l.bits ≤ largest_size }
