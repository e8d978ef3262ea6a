use Rattle.std.proofs.Common.{◌≡◌, length}
use Rattle.image_file.specs.Readers.{block_ids}
use Rattle.stack_bound.specs.Deepest.{first_over}
use Rattle.stack_bound.proofs.deepest.first_over.Given as goal

-- it is the first of what is left
abbrev pub invariant-loop-left : goal.invariant-loop-left
invariant-loop-left l =
    first_over l.l.profile l.layer (block_ids l.l.program) ≡ first_over l.l.profile l.layer l.left

abbrev pub decreases-loop-left : goal.decreases-loop-left
decreases-loop-left l = length l.left
