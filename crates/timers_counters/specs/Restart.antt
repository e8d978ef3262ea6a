-- What a warm restart leaves of the counters.
use Rattle.std.specs.Prelude.{List, ◌++◌, ◌-◌, take, replicate, length}
use Rattle.timers_counters.specs.Counter.{Counter, counter_at_rest}

-- the counters after a warm restart: C 0 to C 7 are retained, and every other one is at rest
abbrev pub counters_retained : List Counter → List Counter
counters_retained counters = take 8 counters ++ replicate (length counters - 8) counter_at_rest
