use Rattle.std.proofs.Common.{◌≡◌, ◌++◌, [], length}
use Rattle.stack_bound.specs.Marks.{marked_bounds_behind}
use Rattle.stack_bound.proofs.marks.marked_bounds.Given as goal

-- those so far, and those of what is left
abbrev pub invariant-loop-left : goal.invariant-loop-left
invariant-loop-left l =
    marked_bounds_behind [] l.marks l.list ≡ l.kept.items ++ marked_bounds_behind l.kept.items l.marked l.left

abbrev pub decreases-loop-left : goal.decreases-loop-left
decreases-loop-left l = length l.left
