use Rattle.std.proofs.Common.{◌≡◌, ◌++◌, replicate}
use Rattle.timers_counters.specs.Counter.{counter_at_rest}
use Rattle.timers_counters.proofs.counter_table.add_counters.Given as goal

-- so many counters were added
abbrev pub invariant-loop : goal.invariant-loop
invariant-loop l = l.counters.items ≡ l.initial.counters.items ++ replicate l.counter counter_at_rest
