use Rattle.std.proofs.Common.{◌≡◌, ◌++◌, length}
use Rattle.stack_bound.specs.Places.{places_called}
use Rattle.stack_bound.specs.Walking.{ops_after_offset}
use Rattle.stack_bound.proofs.callers.places_called.Given as goal

-- the places so far, and those of what the ops from here on call
abbrev pub invariant-loop-op : goal.invariant-loop-op
invariant-loop-op l =
    places_called l.blocks l.code.code
    ≡ l.called.items ++ places_called l.blocks (ops_after_offset 0 l.code.code l.at)

abbrev pub decreases-loop-op : goal.decreases-loop-op
decreases-loop-op l = length (ops_after_offset 0 l.code.code l.at)
