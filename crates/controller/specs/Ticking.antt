-- Passing time.
use Rattle.std.specs.Prelude.{ℕ, List, map, reverse}
use Rattle.std.specs.Fn.{iterate}
use Rattle.frames.specs.declared.Activation.{Activation}
use Rattle.machine.specs.Code.{Code}
use Rattle.machine.specs.Statement.{GlobalStore}
use Rattle.timers_counters.specs.Timer.{timer_after_ms}
use Rattle.ob_sched.specs.TickState.{TickState}
use Rattle.ob_sched.specs.Millisecond.{after_tick}
use Rattle.controller.specs.State.{State}
use Rattle.controller.specs.Requests.{tick_state_taken}

-- the global store in which so many milliseconds have passed, one by one, for the running timers
abbrev pub timers_moved : (ms : ℕ) → GlobalStore → GlobalStore
timers_moved ms w = record w { timers = iterate (map timer_after_ms) ms w.timers }

-- the numbers of the organization blocks that run or are interrupted, the lowest one first
abbrev pub active_obs : List Activation → List ℕ
active_obs activations = map (λ (a : Activation). a.ob) (reverse activations)

-- the state as a tick leaves it, with the timers moved by each millisecond that has passed. In each
-- millisecond the timers move first, so they move in that of a stop too
abbrev pub tick_taken : Code → TickState → State → State
tick_taken code c s =
    tick_state_taken code c (record s { store = timers_moved c.passed.ms s.store })

-- the state after a tick of so many milliseconds: timers, the clock, delays, and in RUN cyclic
-- interrupts and the cycle time. A stop ends it, and in STOP nothing passes
unfoldable pub time_passed : Code → (ms : ℕ) → State → State
time_passed code ms s =
    tick_taken code (after_tick s.mode (active_obs s.activations) ms s.sched) s
