use Rattle.std.proofs.Common.{◌≡◌, ◌++◌, replicate}
use Rattle.timers_counters.specs.Timer.{timer_at_rest}
use Rattle.timers_counters.proofs.timer_table.add_timers.Given as goal

-- so many timers were added
abbrev pub invariant-loop : goal.invariant-loop
invariant-loop l = l.timers.items ≡ l.initial.timers.items ++ replicate l.counter timer_at_rest
