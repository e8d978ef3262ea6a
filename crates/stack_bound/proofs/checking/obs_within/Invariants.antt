use Rattle.std.proofs.Common.{◌≡◌, length}
use Rattle.image_file.specs.Readers.{block_ids}
use Rattle.stack_bound.specs.Checking.{obs_within}
use Rattle.stack_bound.proofs.checking.obs_within.Given as goal

-- what is left decides
abbrev pub invariant-loop-left : goal.invariant-loop-left
invariant-loop-left l =
    obs_within l.l.profile l.c (block_ids l.l.program) ≡ obs_within l.l.profile l.c l.left

abbrev pub decreases-loop-left : goal.decreases-loop-left
decreases-loop-left l = length l.left
