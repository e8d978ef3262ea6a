use Rattle.std.proofs.Common.{◌≡◌, length}
use Rattle.std.specs.Prelude.{max}
use Rattle.stack_bound.specs.Places.{most_at}
use Rattle.stack_bound.specs.declared.measures.Measure.TheVariants.{Depth, Bytes}
use Rattle.stack_bound.proofs.layers.most_at.Given as goal

-- the greatest so far, and of what is left
abbrev pub invariant-loop-left : goal.invariant-loop-left
invariant-loop-left l =
    (most_at Depth l.layer l.places ≡ max l.most.depth (most_at Depth l.layer l.left))
    × (most_at Bytes l.layer l.places ≡ max l.most.bytes (most_at Bytes l.layer l.left))

abbrev pub decreases-loop-left : goal.decreases-loop-left
decreases-loop-left l = length l.left
