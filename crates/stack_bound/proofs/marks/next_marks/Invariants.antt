use Rattle.std.proofs.Common.{◌≡◌, length}
use Rattle.stack_bound.specs.Marks.{ob_marks}
use Rattle.stack_bound.specs.Places.{mark_callers}
use Rattle.stack_bound.proofs.marks.next_marks.Given as goal

-- what is left marks the rest
abbrev pub invariant-loop-left : goal.invariant-loop-left
invariant-loop-left l =
    mark_callers (ob_marks l.list) l.before l.callers ≡ mark_callers l.marks.items l.marked l.left

abbrev pub decreases-loop-left : goal.decreases-loop-left
decreases-loop-left l = length l.left
