use Rattle.std.proofs.Common.{◌≡◌, ◌++◌, map, take, drop}
use Rattle.ob_sched.specs.Millisecond.{delay_counted}
use Rattle.ob_sched.proofs.countdowns.count_delays.Given as goal

-- those below the index are done
abbrev pub invariant-loop-delay : goal.invariant-loop-delay
invariant-loop-delay l = l.delays ≡ map delay_counted (take l.delay-index l.initial.delays) ++ drop l.delay-index l.initial.delays
