use Rattle.std.proofs.Common.{◌≡◌}
use Rattle.ob_sched.proofs.CountdownLemmas.{counted_first}
use Rattle.ob_sched.proofs.countdowns.count_periods.Given as goal

-- those below the index are done
abbrev pub invariant-loop-i : goal.invariant-loop-i
invariant-loop-i l = l.periods ≡ counted_first l.i 30 l.initial.periods
