-- STOP, and the spot at which a program stopped.
use Rattle.std.specs.Prelude.{ℕ, List, [], ◌∷◌, Option, None}
use Rattle.std.specs.Option.{option_map}
use Rattle.plc_base.specs.declared.BlockId.{BlockId}
use Rattle.plc_base.specs.declared.Mode.TheVariants.{Stop}
use Rattle.plc_base.specs.declared.Spot.{Spot}
use Rattle.plc_mem.specs.Peripherals.{outputs_cleared}
use Rattle.frames.specs.declared.Activation.{Activation}
use Rattle.frames.specs.declared.frame.Frame.{Frame}
use Rattle.machine.specs.Code.{Code}
use Rattle.machine.specs.Statement.{GlobalStore}
use Rattle.ob_sched.specs.Scheduler.{sched_stopped}
use Rattle.controller.specs.State.{State, diagnosis_recorded, stop_record}

-- the spot of a statement: its block and its source line, by its position; none where no statement
-- stands there
abbrev pub statement_spot : Code → BlockId → (at : ℕ) → Option Spot
statement_spot code block at =
    option_map (λ i. record { block = block; line = i.line }) (code.fetch block at)

-- the spot of the statement at which a frame stands
abbrev pub spot_of_frame : Code → Frame → Option Spot
spot_of_frame code f = statement_spot code f.block f.at

-- the spot of the statement at which the running activation stands; none where nothing runs
abbrev pub running_spot : Code → List Activation → Option Spot
running_spot code [] = None
running_spot code (a ∷ below) = spot_of_frame code a.running.frame

-- the global store in which each peripheral output is 0; the process image of the outputs and all
-- else stay
abbrev pub outputs_off : GlobalStore → GlobalStore
outputs_off w = record w { memory = outputs_cleared w.memory }

-- the state after STOP with its cause and its spot, which is recorded: activations, pending
-- requests and delays end, peripheral outputs become 0, all else stays
abbrev pub stop_entered_at : Option Spot → (cause : ℕ) → State → State
stop_entered_at at cause s =
    record (diagnosis_recorded stop_record cause s) {
      store = outputs_off s.store;
      mode = Stop cause at;
      activations = [];
      sched = sched_stopped s.sched;
    }

-- the state after STOP with a cause, at the statement at which the running activation stands
unfoldable pub stop_entered : Code → (cause : ℕ) → State → State
stop_entered code cause s = stop_entered_at (running_spot code s.activations) cause s
