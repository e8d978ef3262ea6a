use Rattle.std.proofs.Common.{◌≡◌, ◌++◌, length}
use Rattle.image_file.specs.Readers.{block_ids}
use Rattle.stack_bound.specs.Places.{callers_of}
use Rattle.stack_bound.proofs.callers.callers.Given as goal

-- the callers so far, and those of what is left
abbrev pub invariant-loop-left : goal.invariant-loop-left
invariant-loop-left l =
    callers_of l.l.program l.blocks (block_ids l.l.program)
    ≡ l.callers.items ++ callers_of l.l.program l.blocks l.left

abbrev pub decreases-loop-left : goal.decreases-loop-left
decreases-loop-left l = length l.left
