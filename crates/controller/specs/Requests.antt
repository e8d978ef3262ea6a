-- Arrivals: requests of organization blocks from outside, and what they lead to.
use Rattle.std.specs.Prelude.{ℕ, Option, Some, None, if◌then◌else◌}
use Rattle.machine.specs.Code.{Code}
use Rattle.ob_sched.specs.TickState.{TickState, ob_requested}
use Rattle.ob_sched.specs.Millisecond.{tick_begun}
use Rattle.ob_sched.specs.OrganizationBlock.{priority_class_in}
use Rattle.ob_sched.specs.StartInformation.{start_info}
use Rattle.ob_sched.specs.declared.start_infos.StartEvent.TheVariants.{Arrival}
use Rattle.controller.specs.State.{State, is_stop, diagnoses_recorded}
use Rattle.controller.specs.Stopping.{stop_entered}

-- the state with STOP by a cause, if there is one
abbrev pub state_stopped_if : Code → (cause : Option ℕ) → State → State
state_stopped_if code None s = s
state_stopped_if code (Some cause) s = stop_entered code cause s

-- the state as a tick leaves it: with its scheduler, its records made, and then STOP, if it has a cause
abbrev pub tick_state_taken : Code → TickState → State → State
tick_state_taken code c s =
    state_stopped_if code c.passed.stop
    (diagnoses_recorded c.passed.records.items (record s { sched = c.sched }))

-- the state after an arrival, which requests its organization block: in STOP it is dropped, and so
-- is one of a disabled block; one of a block that isn't loaded requests OB 85, and one that finds
-- a full queue is a time error
unfoldable pub arrival_served : Code → (ob value : ℕ) → State → State
arrival_served code ob value s =
    if is_stop s.mode then s
    else tick_state_taken code
    (ob_requested s.mode ob (start_info (Arrival ob value) (priority_class_in s.mode ob))
    (tick_begun s.sched)) s
