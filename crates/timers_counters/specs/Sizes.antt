-- No instruction, no passing time and no warm restart makes a timer or counter more or less.
use Rattle.std.specs.Prelude.{◌≡◌, ℕ, Option, Result, List, map, length}
use Rattle.std.specs.Fn.{iterate}
use Rattle.timers_counters.specs.Counter.{Counter}
use Rattle.timers_counters.specs.ByNumber.{LeavesTable, change_at_number}
use Rattle.timers_counters.specs.Restart.{counters_retained}
use Rattle.timers_counters.specs.Timer.{Timer, timer_after_ms}
use Rattle.timers_counters.specs.declared.faults.TimerFault.{TimerFault}

-- a call with the outcome of an instruction on a timer or counter leaves as many as there were,
-- also where it answers a fault
abbrev pub InstructionsKeepSize : Type 0 → Type 0
InstructionsKeepSize A =
    (effect : A → Option A) (old new : List A) (number : ℕ) (result : Result Unit TimerFault)
    → LeavesTable old new result (change_at_number effect old number) → length new ≡ length old

-- milliseconds that pass, however many, leave as many timers as there were
abbrev pub TimeKeepsSize : Type 0
TimeKeepsSize =
    (n : ℕ) (timers : List Timer) → length (iterate (map timer_after_ms) n timers) ≡ length timers

-- a warm restart leaves as many counters as there were
abbrev pub RestartKeepsSize : Type 0
RestartKeepsSize = (counters : List Counter) → length (counters_retained counters) ≡ length counters
