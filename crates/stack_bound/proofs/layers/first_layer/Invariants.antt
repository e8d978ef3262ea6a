use Rattle.std.proofs.Common.{◌≡◌, ◌++◌, length}
use Rattle.image_file.specs.Readers.{block_ids}
use Rattle.stack_bound.specs.Layers.{AreBoundsAtMost}
use Rattle.stack_bound.specs.Places.{bounds_alone}
use Rattle.stack_bound.proofs.layers.first_layer.Given as goal

-- the bounds so far and those of what is left are the layer
abbrev pub invariant-loop-left : goal.invariant-loop-left
invariant-loop-left l =
    (bounds_alone l.l.program (block_ids l.l.program) ≡ l.layer.items ++ bounds_alone l.l.program l.left)
    × AreBoundsAtMost 65536 l.layer.items

abbrev pub decreases-loop-left : goal.decreases-loop-left
decreases-loop-left l = length l.left
