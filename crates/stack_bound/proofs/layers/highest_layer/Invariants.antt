use Rattle.std.proofs.Common.{◌≡◌, ◌-◌, ◌+◌, ◌*◌, ◌≤◌}
use Rattle.stack_bound.specs.Layers.{AreBoundsAtMost}
use Rattle.stack_bound.specs.Places.{layers_by}
use Rattle.stack_bound.proofs.layers.highest_layer.Given as goal

abbrev pub invariant-loop-number : goal.invariant-loop-number
invariant-loop-number l =
    (l.layer.items ≡ layers_by l.callers l.initial.layer.items l.number) × (l.number ≤ l.most)
    × AreBoundsAtMost (65536 * l.number + 65536) l.layer.items

abbrev pub decreases-loop-number : goal.decreases-loop-number
decreases-loop-number l = l.most - l.number
