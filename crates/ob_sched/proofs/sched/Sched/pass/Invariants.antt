use Rattle.std.proofs.Common.{◌≡◌, ◌+◌, ◌≤◌}
use Rattle.std.specs.Prelude.{None}
use Rattle.std.specs.Fn.{iterate}
use Rattle.ob_sched.specs.Millisecond.{after_ms, tick_begun}
use Rattle.ob_sched.specs.Views.{tick_state_of, scheduler_of}
use Rattle.ob_sched.proofs.sched.Sched.pass.Given as goal

-- the milliseconds that are left come to what all of them do
abbrev pub invariant-loop-left : goal.invariant-loop-left
invariant-loop-left l = record {
  rest : iterate (after_ms l.mode l.active) l.left (tick_state_of l.self l.passed) ≡ iterate (after_ms l.mode l.active) l.n (tick_begun (scheduler_of l.fn.self));
  running : l.passed.stop ≡ None;
  within : l.passed.ms + l.left ≤ l.n;
}

abbrev pub decreases-loop-left : goal.decreases-loop-left
decreases-loop-left l = l.left
