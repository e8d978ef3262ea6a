use Rattle.std.proofs.Common.{◌≡◌, ◌+◌, ◌≤◌, length}
use Rattle.controller.specs.Beginning.{with_start_bytes}
use Rattle.controller.proofs.beginning.set_start_bytes.Given as goal

-- what is left comes to what all do
abbrev pub invariant-loop-left : goal.invariant-loop-left
invariant-loop-left l =
    (with_start_bytes l.byte l.left l.a ≡ with_start_bytes 0 l.bytes l.fn.a) × (l.byte + length l.left ≤ 1024)

abbrev pub decreases-loop-left : goal.decreases-loop-left
decreases-loop-left l = length l.left
