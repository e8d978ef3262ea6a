-- The state of the CPU between two entries of its history.
use Rattle.std.specs.Prelude.{ℕ, Bool, true, false, List, [], ◌∷◌, Option}
use Rattle.plc_base.specs.declared.BlockId.{BlockId}
use Rattle.plc_base.specs.declared.Profile.{Profile}
use Rattle.plc_base.specs.declared.Mode.{Mode}
use Rattle.plc_base.specs.declared.Mode.TheVariants.{Run, Startup, Stop}
use Rattle.frames.specs.declared.Activation.{Activation}
use Rattle.machine.specs.Statement.{GlobalStore}
use Rattle.monitor.specs.Diagnostics.{last_records}
use Rattle.monitor.specs.declared.DiagRecord.{DiagRecord}
use Rattle.ob_sched.specs.Scheduler.{Scheduler}

-- the state of the CPU between two entries of its history
pub record State : Type 0 where
  -- the profile (docs/SEMANTICS.md, "Memory")
  pub profile : Profile
  -- the global store: memory, timers and counters
  pub store : GlobalStore
  -- the operating mode: STARTUP, RUN or STOP
  pub mode : Mode
  -- the activations of organization blocks, the running one first, each of the others interrupted
  -- by the one before it
  pub activations : List Activation
  -- the scheduler: requests, delays, periods, cycle time
  pub sched : Scheduler
  -- the first cycle after a start is still to come
  pub first_cycle : Bool
  -- the block that is monitored, if there is one
  pub monitored : Option BlockId
  -- the diagnostic buffer: the last 100 records
  pub diagnostics : List DiagRecord
  -- how many entries the history has
  pub entries : ℕ

-- the mode is STOP, whatever its cause and its spot are
abbrev pub is_stop : Mode → Bool
is_stop Run = false
is_stop Startup = false
is_stop (Stop cause at) = true

-- the code of a record of diagnostics for a synchronous error; its detail is the error's code
abbrev pub synchronous_error_record : ℕ
synchronous_error_record = 4

-- the code of a record of diagnostics for STOP; its detail is the cause
abbrev pub stop_record : ℕ
stop_record = 5

-- the code of a record of diagnostics for a warm restart; its detail is 0
abbrev pub restart_record : ℕ
restart_record = 6

-- the state with one more record of diagnostics, a code and its detail, under the number of the
-- last entry
abbrev pub diagnosis_recorded : (code info : ℕ) → State → State
diagnosis_recorded code info s =
    record s {
      diagnostics =
          last_records s.diagnostics (record { entry = s.entries; code = code; info = info });
    }

-- the state with records of diagnostics made, each a code and its detail, one after another
abbrev pub diagnoses_recorded : List (ℕ × ℕ) → State → State
diagnoses_recorded [] s = s
diagnoses_recorded (one ∷ rest) s = diagnoses_recorded rest (diagnosis_recorded one.0 one.1 s)
