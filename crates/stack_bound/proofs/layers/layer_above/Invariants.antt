use Rattle.std.proofs.Common.{◌≡◌, ◌+◌, ◌++◌, length, map}
use Rattle.stack_bound.specs.Layers.{AreBoundsAtMost}
use Rattle.stack_bound.specs.Places.{bound_by}
use Rattle.stack_bound.proofs.layers.layer_above.Given as goal

-- the bounds so far and those of what is left are the layer
abbrev pub invariant-loop-left : goal.invariant-loop-left
invariant-loop-left l =
    (map (bound_by l.below) l.callers ≡ l.layer.items ++ map (bound_by l.below) l.left)
    × AreBoundsAtMost (l.highest + 65536) l.layer.items

abbrev pub decreases-loop-left : goal.decreases-loop-left
decreases-loop-left l = length l.left
