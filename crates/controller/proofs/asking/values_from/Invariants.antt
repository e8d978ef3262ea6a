use Rattle.std.proofs.Common.{◌≡◌, ◌+◌, length}
use Rattle.controller.specs.Asking.{values_from}
use Rattle.controller.proofs.AskingLemmas.{values_behind}
use Rattle.controller.proofs.asking.values_from.Given as goal

-- the values so far, and then those of what is left, are all; the next index is theirs and one
abbrev pub invariant-loop-left : goal.invariant-loop-left
invariant-loop-left l =
    (values_from l.memory 1 l.vars ≡ values_behind l.values (values_from l.memory l.index l.left))
    × (l.index ≡ length l.values + 1)
    × (length l.values + length l.left ≡ length l.vars)

abbrev pub decreases-loop-left : goal.decreases-loop-left
decreases-loop-left l = length l.left
