use Rattle.std.proofs.Common.{◌≡◌, drop, ◌≤◌}
use Rattle.block_layout.specs.Sizes.{components_end}
use Rattle.block_layout.specs.Sizes.{largest_size}
use Rattle.block_layout.proofs.sizes.components_end.Given as goal

abbrev pub invariant-loop-i : goal.invariant-loop-i
invariant-loop-i l = record { rest : components_end l.level l.at (drop l.i l.cells) ≡ components_end l.level 0 l.cells; near : l.at ≤ largest_size }
