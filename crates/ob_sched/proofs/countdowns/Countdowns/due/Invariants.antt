use Rattle.std.proofs.Common.{◌≡◌, ◌+◌, ◌≤◌, ◌++◌, drop, length}
use Rattle.ob_sched.specs.Millisecond.{due_from}
use Rattle.ob_sched.proofs.countdowns.Countdowns.due.Given as goal

-- those found so far, and then what is left, are all
abbrev pub invariant-loop-i : goal.invariant-loop-i
invariant-loop-i l = (length l.obs.items ≤ l.i) × (l.obs.items ++ due_from (30 + l.i) (drop l.i l.left-items) ≡ due_from 30 l.left-items)
