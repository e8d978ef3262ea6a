-- Synchronous errors, and the organization blocks that they start.
use Rattle.std.specs.Prelude.{ℕ, ◌==◌, Bool, ◌||◌, List, ◌∷◌, Option, Some, None, if◌then◌else◌}
use Rattle.std.specs.Option.{option_map}
use Rattle.plc_base.specs.Kinds.{kind_number}
use Rattle.plc_base.specs.StopCauses as causes
use Rattle.plc_base.specs.declared.Spot.{Spot}
use Rattle.frames.specs.declared.Activation.{Activation}
use Rattle.machine.specs.Code.{Code}
use Rattle.machine.specs.Entering.{at_block}
use Rattle.ob_sched.specs.StartInformation.{ob_of_error, start_info}
use Rattle.ob_sched.specs.declared.start_infos.StartEvent.{StartEvent}
use Rattle.ob_sched.specs.declared.start_infos.StartEvent.TheVariants.{Synchronous}
use Rattle.controller.specs.Beginning.{ob_activation}
use Rattle.controller.specs.State.{State, diagnosis_recorded, synchronous_error_record}
use Rattle.controller.specs.Stopping.{stop_entered_at}

-- the OB is that of a synchronous error: OB 121, programming error, or OB 122, access error to
-- peripherals
abbrev pub is_synchronous : ℕ → Bool
is_synchronous ob = ob == 121 || ob == 122

-- the stop cause of a synchronous error whose OB, 121 or 122, isn't loaded
abbrev pub cause_without : (ob : ℕ) → ℕ
cause_without ob = if ob == 122 then causes.no_ob_122 else causes.no_ob_121

-- the start event of a synchronous error: its code, the kind and number of the block in which it
-- came, and the source line of its statement; 0 for these three where no spot is known
abbrev pub error_event : (error : ℕ) → Option Spot → StartEvent
error_event error None = Synchronous error 0 0 0
error_event error (Some at) = Synchronous error (kind_number at.block.kind) at.block.number at.line

-- an organization block of a synchronous error begins with copies of the registers, but with OS 0, OR 0,
-- STA 1 and /FC 0, and with the delay count of the activation in which the error came
abbrev pub with_caller_registers : Activation → (fresh : Activation) → Activation
with_caller_registers a fresh =
    record fresh {
      delay = a.delay;
      running = record fresh.running { regs = at_block a.running.regs };
    }

-- the activation with which the OB of a synchronous error begins, in the class of the activation
-- in which the error came; None where the OB isn't loaded
abbrev pub error_in : Code → (error : ℕ) → (at : Option Spot) → Activation → Option Activation
error_in code error at a =
    option_map (with_caller_registers a)
    (ob_activation a.profile code a.class (ob_of_error error)
    (start_info (error_event error at) a.class))

-- the state after the start of the OB of a synchronous error, which interrupts the activation in
-- which the error came; without the OB (None) the controller stops
abbrev pub error_ob_started :
    Option Activation → (error : ℕ) → (at : Option Spot) → (a : Activation)
    (below : List Activation) → State → State
error_ob_started None error at a below s = stop_entered_at at (cause_without (ob_of_error error)) s
error_ob_started (Some fresh) error at a below s = record s { activations = fresh ∷ a ∷ below }

-- the state after a synchronous error of a statement at the spot `at`: the error is recorded,
-- and its OB starts; inside OB 121 or 122 the controller stops. The activation `a` has
-- gone on to the next statement
unfoldable pub error_raised :
    Code → (error : ℕ) → (at : Option Spot) → (a : Activation) (below : List Activation)
    → State → State
error_raised code error at a below s =
    if is_synchronous a.ob
    then stop_entered_at at causes.in_error_ob (diagnosis_recorded synchronous_error_record error s)
    else error_ob_started (error_in code error at a) error at a below
    (diagnosis_recorded synchronous_error_record error s)
