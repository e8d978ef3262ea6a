use Rattle.std.proofs.Common.{◌≡◌, ◌++◌, length}
use Rattle.stack_bound.specs.Marks.{ob_marks}
use Rattle.stack_bound.proofs.marks.ob_marks.Given as goal

-- the marks so far and those of what is left
abbrev pub invariant-loop-left : goal.invariant-loop-left
invariant-loop-left l = ob_marks l.list ≡ l.marks.items ++ ob_marks l.left

abbrev pub decreases-loop-left : goal.decreases-loop-left
decreases-loop-left l = length l.left
