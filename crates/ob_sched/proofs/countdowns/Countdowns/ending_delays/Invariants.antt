use Rattle.std.proofs.Common.{◌≡◌, ◌+◌, ◌≤◌, ◌++◌, drop, length}
use Rattle.ob_sched.specs.Millisecond.{ending_from}
use Rattle.ob_sched.proofs.countdowns.Countdowns.ending_delays.Given as goal

-- those found so far, and then what is left, are all
abbrev pub invariant-loop-i : goal.invariant-loop-i
invariant-loop-i l = (length l.obs.items ≤ l.i) × (l.obs.items ++ ending_from (20 + l.i) (drop l.i l.delay-items) ≡ ending_from 20 l.delay-items)
