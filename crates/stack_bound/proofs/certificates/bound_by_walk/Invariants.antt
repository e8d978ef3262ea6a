use Rattle.std.proofs.Common.{◌≡◌, length}
use Rattle.stack_bound.specs.Certificates.{bound_of}
use Rattle.stack_bound.proofs.certificates.bound_by_walk.Given as goal

-- what is left says the same of the block
abbrev pub invariant-loop-left : goal.invariant-loop-left
invariant-loop-left l = bound_of l.block l.list ≡ bound_of l.block l.left

abbrev pub decreases-loop-left : goal.decreases-loop-left
decreases-loop-left l = length l.left
