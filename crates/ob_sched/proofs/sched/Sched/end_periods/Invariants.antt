use Rattle.std.proofs.Common.{◌≡◌, drop}
use Rattle.ob_sched.specs.Millisecond.{each_ob, period_ended}
use Rattle.ob_sched.specs.Views.{tick_state_of}
use Rattle.ob_sched.proofs.sched.Sched.end_periods.Given as goal

-- what is left comes to what all of them do
abbrev pub invariant-loop-ob : goal.invariant-loop-ob
invariant-loop-ob l =
    each_ob (period_ended l.mode l.active) (drop l.ob-index l.obs) (tick_state_of l.self l.passed)
    ≡ each_ob (period_ended l.mode l.active) l.obs (tick_state_of l.fn.self l.fn.passed)
