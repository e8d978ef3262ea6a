use Rattle.std.proofs.Common.{◌≡◌, length}
use Rattle.stack_bound.specs.Order.{are_blocks_rising}
use Rattle.stack_bound.proofs.certificates.rise.Given as goal

-- what is left decides
abbrev pub invariant-loop-left : goal.invariant-loop-left
invariant-loop-left l = are_blocks_rising l.list ≡ are_blocks_rising l.left

abbrev pub decreases-loop-left : goal.decreases-loop-left
decreases-loop-left l = length l.left
