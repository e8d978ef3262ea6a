use Rattle.std.proofs.Common.{◌≡◌, ◌++◌, map, take, drop}
use Rattle.std.specs.Fn.{iterate}
use Rattle.timers_counters.specs.Timer.{timer_after_ms}
use Rattle.timers_counters.proofs.timer_table.pass_all.Given as goal

-- the timers below the index have passed the milliseconds
abbrev pub invariant-loop-timer : goal.invariant-loop-timer
invariant-loop-timer l =
    l.timers ≡ map (iterate timer_after_ms l.n) (take l.timer-index l.initial.timers) ++ drop l.timer-index l.initial.timers
