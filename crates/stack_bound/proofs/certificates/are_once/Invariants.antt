use Rattle.std.proofs.Common.{◌≡◌, length}
use Rattle.stack_bound.specs.Checking.{has_each_block_once}
use Rattle.stack_bound.proofs.certificates.are_once.Given as goal

-- what is left decides
abbrev pub invariant-loop-left : goal.invariant-loop-left
invariant-loop-left l = has_each_block_once l.list ≡ has_each_block_once l.left

abbrev pub decreases-loop-left : goal.decreases-loop-left
decreases-loop-left l = length l.left
