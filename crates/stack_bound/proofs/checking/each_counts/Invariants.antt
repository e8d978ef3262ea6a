use Rattle.std.proofs.Common.{◌≡◌, length}
use Rattle.stack_bound.specs.Checking.{each_counts}
use Rattle.stack_bound.proofs.checking.each_counts.Given as goal

-- what is left decides
abbrev pub invariant-loop-left : goal.invariant-loop-left
invariant-loop-left l = each_counts l.l.program l.c l.list ≡ each_counts l.l.program l.c l.left

abbrev pub decreases-loop-left : goal.decreases-loop-left
decreases-loop-left l = length l.left
