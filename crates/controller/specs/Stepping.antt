-- A step outside STOP: one statement of the running activation, or a cycle point where none runs.
use Rattle.std.specs.Prelude.{ℕ, ◌==◌, Option, List, [], ◌∷◌, if◌then◌else◌}
use Rattle.plc_base.specs.declared.Mode.TheVariants.{Run}
use Rattle.plc_base.specs.declared.Spot.{Spot}
use Rattle.frames.specs.declared.Activation.{Activation}
use Rattle.machine.specs.Code.{Code}
use Rattle.machine.specs.Statement.{GlobalStore, StatementStep, Went, Ended, SyncError, SysCall, Stop, Stuck, statement_step}
use Rattle.ob_sched.specs.Scheduler.{run_begun}
use Rattle.controller.specs.CyclePoint.{cycle_point}
use Rattle.controller.specs.Errors.{error_raised}
use Rattle.controller.specs.Serving.{system_call_served}
use Rattle.controller.specs.State.{State}
use Rattle.controller.specs.Stopping.{stop_entered_at, spot_of_frame}

-- the state in which RUN begins, with the periods of the cyclic interrupts and with the cycle
-- counter at 0
abbrev pub run_starts : State → State
run_starts s = record s { mode = Run; sched = run_begun s.sched }

-- the state after the end of an organization block: the end of OB 100 is that of STARTUP
abbrev pub ob_ended : (ob : ℕ) → State → State
ob_ended ob s = if ob == 100 then run_starts s else s

-- the state with another global store and other activations; all else stays
abbrev pub with_activations : GlobalStore → List Activation → State → State
with_activations w activations s = record s { store = w; activations = activations }

-- the state by what comes of a statement of an organization block, which stands at `at`. One that
-- is stuck changes nothing; a program that verifies has none
abbrev pub after_statement :
    Code → StatementStep → (ob : ℕ) → (at : Option Spot) → (below : List Activation) → State → State
after_statement code (Went a w) ob at below s = with_activations w (a ∷ below) s
after_statement code (Ended regs w) ob at below s = ob_ended ob (with_activations w below s)
after_statement code (SyncError error a) ob at below s = error_raised code error at a below s
after_statement code (SysCall number given a) ob at below s =
    system_call_served at number given a below s
after_statement code (Stop cause) ob at below s = stop_entered_at at cause s
after_statement code Stuck ob at below s = s

-- the state after the next statement of the first of some activations, or after a cycle point
-- where there is none
abbrev pub step_of_first : Code → List Activation → State → State
step_of_first code [] s = cycle_point code s
step_of_first code (a ∷ below) s =
    after_statement code (statement_step code a s.store) a.ob
    (spot_of_frame code a.running.frame) below s

-- the state after a step outside STOP: the next statement of the running activation, or a cycle
-- point where none runs
unfoldable pub after_step : Code → State → State
after_step code s = step_of_first code s.activations s
