use Rattle.std.proofs.Common.{ℕ, ◌<◌, get_or}
use Rattle.std.specs.Prelude.{Option}
use Rattle.ob_sched.specs.Quiet.{DelayLasts}
use Rattle.ob_sched.proofs.countdowns.least_delay.Given as goal

abbrev pub invariant-loop-delay : goal.invariant-loop-delay
invariant-loop-delay l = (k : ℕ) (d : Option ℕ) → k < l.delay-index → DelayLasts l.least (get_or l.delays k d)
