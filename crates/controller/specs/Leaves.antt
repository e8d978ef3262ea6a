-- What calls of the code leave of the activations, and answer.
use Rattle.std.specs.Prelude.{◌≡◌, ℕ, ◌==◌, Bool, true, false, List, [], ◌∷◌, Option, Some, None, if◌then◌else◌}
use Rattle.plc_base.specs.declared.BlockId.{BlockId}
use Rattle.plc_base.specs.declared.Mode.{Mode}
use Rattle.plc_base.specs.declared.Mode.TheVariants.{Run}
use Rattle.plc_base.specs.declared.Spot.{Spot}
use Rattle.plc_mem.specs.Areas.{Areas}
use Rattle.frames.specs.declared.Activation.{Activation}
use Rattle.frames.specs.declared.bindings.Binding.{Binding}
use Rattle.machine.specs.Code.{Code}
use Rattle.machine.specs.Statement.{GlobalStore, StatementStep, Went, Ended, SyncError, SysCall, Stop, statement_step}
use Rattle.machine.specs.declared.outcomes.Outcome.{Outcome}
use Rattle.machine.specs.declared.outcomes.Outcome.TheVariants as outcome
use Rattle.monitor.specs.declared.MonRecord.{MonRecord}
use Rattle.ob_sched.specs.Scheduler.{Scheduler}
use Rattle.sys_funcs.specs.Results.{LeavesSystemFunctionResult}
use Rattle.status_word.specs.declared.Regs.{Regs}
use Rattle.controller.specs.Errors.{error_in, error_raised}
use Rattle.controller.specs.Monitoring.{regs_before_service, regs_served, statement_record}
use Rattle.controller.specs.Serving.{ServiceResult, Returns, Passes, Stops, result_given, after_service, system_function_served}
use Rattle.controller.specs.State.{State}
use Rattle.controller.specs.Stepping.{ob_ended}
use Rattle.controller.specs.Stopping.{stop_entered_at, statement_spot}
use Rattle.controller.specs.declared.serving.Answer.{Answer}
use Rattle.controller.specs.declared.serving.Answer.TheVariants as answers
use Rattle.controller.specs.declared.activations.At.{At}

-- the running activation, the first of some activations; none where nothing runs
abbrev pub running_of : List Activation → Option Activation
running_of [] = None
running_of (a ∷ below) = Some a

-- where a statement of an activation stands: the OB, the innermost block and the position in that
-- block; with the registers after the statement
abbrev pub position_of_running_statement : Activation → Regs → At
position_of_running_statement a regs = record {
  ob = a.ob;
  block = a.running.frame.block;
  at = a.running.frame.at;
  regs = regs;
}

-- an organization block begins above those that stand (true); where there is none, they stay
-- (false)
abbrev pub ObBegins : Option Activation → (old new : List Activation) → Bool → Type 0
ObBegins None old new false = new ≡ old
ObBegins (Some a) old new true = new ≡ a ∷ old
ObBegins a old new answer = ⊥

-- the running activation has other registers, and interrupts are delayed so often in it; where none
-- runs nothing is handed on
abbrev pub HandsRegsOn : (delay : ℕ) → Regs → (old new : List Activation) → Type 0
HandsRegsOn delay regs [] new = new ≡ []
HandsRegsOn delay regs (a ∷ below) new =
    new ≡ record a { delay = delay; running = record a.running { regs = regs } } ∷ below

-- what the start of the OB of a synchronous error leaves of the activations: the OB begins above
-- the running one (true), or the OB isn't loaded or nothing runs (false)
abbrev pub ErrorBegins :
    Code → (error : ℕ) → (at : Option Spot) → (old new : List Activation) → Bool → Type 0
ErrorBegins code error at [] new answer = (new ≡ []) × (answer ≡ false)
ErrorBegins code error at (a ∷ below) new answer =
    ObBegins (error_in code error at a) (a ∷ below) new answer

-- the activations, memory with timers and counters, and the answer after a statement of `a`, above
-- `below`. By a stop `a` is as it was; for a statement that is stuck there is no answer
abbrev pub LeavesStepOf :
    StatementStep → (a : Activation) (below new : List Activation) (w w' : GlobalStore) → Outcome
    → Type 0
LeavesStepOf (Went a' after) a below new w w' outcome.Went = (new ≡ a' ∷ below) × (w' ≡ after)
LeavesStepOf (Ended regs after) a below new w w' outcome.Ended = (new ≡ below) × (w' ≡ after)
LeavesStepOf (SyncError code a') a below new w w' (outcome.SyncError error) =
    (error ≡ code) × (new ≡ a' ∷ below) × (w' ≡ w)
LeavesStepOf (SysCall number given a') a below new w w' (outcome.SysCall function inputs result) =
    (function ≡ number) × (inputs ≡ given.inputs) × (result ≡ given.result)
    × (new ≡ a' ∷ below) × (w' ≡ w)
LeavesStepOf (Stop cause) a below new w w' (outcome.Stop why) =
    (why ≡ cause) × (new ≡ a ∷ below) × (w' ≡ w)
LeavesStepOf step a below new w w' answer = ⊥

-- a statement of the running activation, and where it stood, with the registers before a system
-- function does its work; no answer where nothing runs
abbrev pub LeavesStatementStep :
    Code → (old new : List Activation) (w w' : GlobalStore) → Option (At × Outcome) → Type 0
LeavesStatementStep code [] new w w' None = (new ≡ []) × (w' ≡ w)
LeavesStatementStep code (a ∷ below) new w w' (Some done) =
    (done.0 ≡ position_of_running_statement a (regs_before_service (statement_step code a w) a))
    × LeavesStepOf (statement_step code a w) a below new w w' done.1
LeavesStatementStep code old new w w' answer = ⊥

-- the mode after a statement of an organization block: RUN after the end of OB 100, else as before
-- (a stop is still to come)
abbrev pub mode_after : Mode → (ob : ℕ) → Outcome → Mode
mode_after mode ob outcome.Ended = if ob == 100 then Run else mode
mode_after mode ob _ = mode

-- the state after what is still to do for a statement with a synchronous error, which stood at
-- `position`: the OB of the error begins, or it is a stop; nothing where nothing runs
abbrev pub error_handled : Code → (error : ℕ) → At → List Activation → State → State
error_handled code error position [] s = s
error_handled code error position (a ∷ below) s =
    error_raised code error (statement_spot code position.block position.at) a below s

-- the state after what is still to do for a call of a system function: it does its work, RET_VAL goes
-- where it is bound, and a stop has the spot of the call; nothing where nothing runs
abbrev pub call_finished :
    Code → (number : ℕ) → List ℕ → Option Binding → At → List Activation → State → State
call_finished code number inputs to position [] s = s
call_finished code number inputs to position (a ∷ below) s =
    after_service (statement_spot code position.block position.at)
    (system_function_served number inputs s.sched a) to below s

-- what is left to do after a statement, by what came of it: the end of OB 100 begins RUN, an error
-- begins its OB, a system function does its work, a stop is STOP with the spot of the statement
unfoldable pub statement_finished : Code → At → Outcome → State → State
statement_finished code position outcome.Went s = s
statement_finished code position outcome.Ended s = ob_ended position.ob s
statement_finished code position (outcome.SyncError error) s =
    error_handled code error position s.activations s
statement_finished code position (outcome.SysCall number inputs to) s =
    call_finished code number inputs to position s.activations s
statement_finished code position (outcome.Stop cause) s =
    stop_entered_at (statement_spot code position.block position.at) cause s

-- the registers after a call of a system function, which had left these; they stay where nothing runs
abbrev pub regs_called : (number : ℕ) → List ℕ → Scheduler → List Activation → Regs → Regs
regs_called number inputs s [] regs = regs
regs_called number inputs s (a ∷ below) regs =
    regs_served (system_function_served number inputs s a)

-- the registers after a whole statement, by what came of it: a system function is still to do its work
abbrev pub regs_finished : Outcome → Scheduler → List Activation → Regs → Regs
regs_finished (outcome.SysCall number inputs to) s activations regs =
    regs_called number inputs s activations regs
regs_finished _ s activations regs = regs

-- the monitoring record of a statement by its position and the registers after it; None where its
-- block isn't monitored
abbrev pub record_of_statement : Code → (monitored : Option BlockId) → At → Regs → Option MonRecord
record_of_statement code monitored position regs =
    statement_record code monitored position.block position.at regs

-- what a system function leaves of the scheduler and its activation, and what it answers: RET_VAL,
-- nothing, or its stop cause, which changes nothing of the scheduler
abbrev pub LeavesServiceResult :
    ServiceResult → (s s' : Scheduler) (a' : Activation) → Answer → Type 0
LeavesServiceResult (Returns r) s s' a' (answers.Value value) =
    LeavesSystemFunctionResult r s' a' value
LeavesServiceResult (Passes sched a) s s' a' answers.Nothing = (s' ≡ sched) × (a' ≡ a)
LeavesServiceResult (Stops cause a) s s' a' (answers.Halt why) = (why ≡ cause) × (s' ≡ s) × (a' ≡ a)
LeavesServiceResult served s s' a' answer = ⊥

-- a system function was served and its RET_VAL given where it is bound, and the activation stands
-- above `below`, with no answer; or the answer is its stop cause, the activation stands there, and
-- memory and scheduler stay
abbrev pub ServesTo :
    ServiceResult → Option Binding → (below new : List Activation) (m m' : Areas) (s s' : Scheduler)
    → Option ℕ → Type 0
ServesTo (Returns r) to below new m m' s s' None =
    (new ≡ (result_given to r.value r.activation m).activation ∷ below)
    × (m' ≡ (result_given to r.value r.activation m).memory) × (s' ≡ r.sched)
ServesTo (Passes sched a) to below new m m' s s' None =
    (new ≡ a ∷ below) × (m' ≡ m) × (s' ≡ sched)
ServesTo (Stops cause a) to below new m m' s s' (Some why) =
    (why ≡ cause) × (m' ≡ m) × (s' ≡ s) × (new ≡ a ∷ below)
ServesTo served to below new m m' s s' answer = ⊥

-- the system function of this number, which the running activation called, was served, and its
-- RET_VAL given where it is bound; the answer is a stop cause, if it has one. Where no activation
-- runs, all stays, with no answer
abbrev pub ServesRunning :
    (number : ℕ) → List ℕ → Option Binding → (old new : List Activation) (m m' : Areas)
    (s s' : Scheduler) → Option ℕ → Type 0
ServesRunning number inputs to [] new m m' s s' None = (new ≡ []) × (m' ≡ m) × (s' ≡ s)
ServesRunning number inputs to (a ∷ below) new m m' s s' answer =
    ServesTo (system_function_served number inputs s a) to below new m m' s s' answer
ServesRunning number inputs to old new m m' s s' answer = ⊥
