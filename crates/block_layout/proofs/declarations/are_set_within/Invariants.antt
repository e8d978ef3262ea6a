use Rattle.std.proofs.Common.{◌≡◌, drop, ◌+◌, ◌-◌, ◌^◌, min}
use Rattle.block_layout.specs.Declarations.{elements_set_by}
use Rattle.block_layout.proofs.declarations.are_set_within.Given as goal

abbrev pub invariant-loop-i : goal.invariant-loop-i
invariant-loop-i l = min (l.set + elements_set_by (drop l.i-index l.init)) (2 ^ 64 - 1) ≡ min (elements_set_by l.init) (2 ^ 64 - 1)
