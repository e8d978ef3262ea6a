use Rattle.std.proofs.Common.{◌≡◌, ◌+◌, ◌≤◌, ◌++◌, length}
use Rattle.std.specs.Prelude.{map}
use Rattle.frames.specs.declared.Activation.{Activation}
use Rattle.controller.proofs.activations.add_obs.Given as goal

-- those so far, and then what is left, are all
abbrev pub invariant-loop-left : goal.invariant-loop-left
invariant-loop-left l =
    (l.obs.items ++ map (λ (a : Activation). a.ob) l.left
    ≡ l.fn.obs.items ++ map (λ (a : Activation). a.ob) l.activations)
    × (length l.obs.items + length l.left ≤ 48)

abbrev pub decreases-loop-left : goal.decreases-loop-left
decreases-loop-left l = length l.left
