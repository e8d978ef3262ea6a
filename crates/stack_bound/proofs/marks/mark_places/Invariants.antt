use Rattle.std.proofs.Common.{◌≡◌, length}
use Rattle.stack_bound.specs.Places.{mark_places}
use Rattle.stack_bound.proofs.marks.mark_places.Given as goal

-- what is left marks the rest
abbrev pub invariant-loop-left : goal.invariant-loop-left
invariant-loop-left l =
    mark_places l.initial.marks.items l.places ≡ mark_places l.marks.items l.left

abbrev pub decreases-loop-left : goal.decreases-loop-left
decreases-loop-left l = length l.left
