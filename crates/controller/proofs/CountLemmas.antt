-- Nothing changes the count of entries but that an entry is counted.
use Rattle.std.proofs.Common.{◌≡◌, ℕ, ◌+◌, Bool, true, false, List, [], ◌∷◌, length, Option, Some, None, refl, ◌∙◌, arith, if◌then◌else◌}
use Rattle.std.specs.Prelude.{is_some}
use Rattle.plc_base.specs.StopCauses as causes
use Rattle.plc_base.specs.declared.Profile.{Profile}
use Rattle.plc_base.specs.declared.Spot.{Spot}
use Rattle.frames.specs.declared.Activation.{Activation}
use Rattle.frames.specs.declared.bindings.Binding.{Binding}
use Rattle.machine.specs.Code.{Code}
use Rattle.machine.specs.Statement.{StatementStep, Went, Ended, SyncError, SysCall, Stop, Stuck, statement_step}
use Rattle.ob_sched.specs.TickState.{TickState, ob_requested}
use Rattle.ob_sched.specs.Millisecond.{tick_begun, after_tick}
use Rattle.ob_sched.specs.OrganizationBlock.{priority_class_in}
use Rattle.ob_sched.specs.StartRequest.{best_of}
use Rattle.ob_sched.specs.StartInformation.{start_info}
use Rattle.ob_sched.specs.declared.requests.Pending.{Pending}
use Rattle.ob_sched.specs.declared.start_infos.StartEvent.TheVariants.{Arrival}
use Rattle.var_access.specs.declared.Request.{Request}
use Rattle.var_access.specs.declared.Request.TheVariants as ask
use Rattle.var_access.specs.declared.What.{What}
use Rattle.var_access.specs.declared.What.TheVariants as what
use Rattle.controller.specs.Asking.{request_effect}
use Rattle.controller.specs.Beginning.{ob_activation, with_ob_begun}
use Rattle.controller.specs.CyclePoint.{cycle_point, cycle_info, cycle_finished}
use Rattle.controller.specs.Errors.{error_raised, error_ob_started, error_in, is_synchronous}
use Rattle.controller.specs.Event.{entry_counted, entry_effect, state_after}
use Rattle.controller.specs.Replay.{entry_result, state_after_entries, replay, CountsEntries, CountsHistory}
use Rattle.controller.specs.Requests.{state_stopped_if, tick_state_taken, arrival_served}
use Rattle.controller.specs.Serving.{ServiceResult, Returns, Passes, Stops, after_service, system_function_served}
use Rattle.controller.specs.Settling.{after_settling, best_started, request_started, request_taken, may_start}
use Rattle.controller.specs.Start.{before_start, restart_cleared, state_after_warm_restart, initial_state, state_in_startup, startup_ob}
use Rattle.controller.specs.State.{State, is_stop, diagnosis_recorded, diagnoses_recorded}
use Rattle.controller.specs.Stepping.{after_step, step_of_first, after_statement, run_starts, with_activations}
use Rattle.controller.specs.Stopping.{stop_entered, stop_entered_at, spot_of_frame}
use Rattle.controller.specs.Ticking.{time_passed, tick_taken, active_obs, timers_moved}

if_counts : (test : Bool) (s t : State) (n : ℕ) → s.entries ≡ n → t.entries ≡ n
    → (if test then s else t).entries ≡ n
if_counts true s t n one other = one
if_counts false s t n one other = other

diagnosed_counts : (records : List (ℕ × ℕ)) (s : State)
    → (diagnoses_recorded records s).entries ≡ s.entries
diagnosed_counts [] s = refl
diagnosed_counts (one ∷ rest) s = diagnosed_counts rest (diagnosis_recorded one.0 one.1 s)

begun_counts : (begun : Option Activation) (s : State)
    → (with_ob_begun begun s).entries ≡ s.entries
begun_counts None s = refl
begun_counts (Some a) s = refl

halted_counts : (code : Code) (cause : ℕ) (s : State) → (stop_entered code cause s).entries ≡ s.entries
unfolding stop_entered
halted_counts code cause s = refl

best_counts : (code : Code) (best : Option Pending) (s : State)
    → (best_started code best s).entries ≡ s.entries
best_counts code None s = refl
best_counts code (Some best) s =
    if_counts (may_start best.class s.activations) (request_started code best s) s s.entries
    (begun_counts (ob_activation s.profile code best.class best.ob best.info) (request_taken s)) refl

settled_counts : (code : Code) (s : State) → (after_settling code s).entries ≡ s.entries
unfolding after_settling
settled_counts code s =
    if_counts (is_stop s.mode) s (best_started code (best_of s.mode s.sched.pending) s) s.entries
    refl (best_counts code (best_of s.mode s.sched.pending) s)

cycle_counts : (code : Code) (s : State) → (cycle_point code s).entries ≡ s.entries
unfolding cycle_point
cycle_counts code s =
    begun_counts (ob_activation s.profile code (priority_class_in s.mode 1) 1 (cycle_info s)) (cycle_finished s)

answered_counts : (fresh : Option Activation) (error : ℕ) (at : Option Spot) (a : Activation)
    (below : List Activation) (s : State) → (error_ob_started fresh error at a below s).entries ≡ s.entries
answered_counts None error at a below s = refl
answered_counts (Some fresh) error at a below s = refl

failed_counts : (code : Code) (error : ℕ) (at : Option Spot) (a : Activation)
    (below : List Activation) (s : State) → (error_raised code error at a below s).entries ≡ s.entries
unfolding error_raised
failed_counts code error at a below s =
    if_counts (is_synchronous a.ob) (stop_entered_at at causes.in_error_ob (diagnosis_recorded 4 error s))
    (error_ob_started (error_in code error at a) error at a below (diagnosis_recorded 4 error s))
    s.entries refl
    (answered_counts (error_in code error at a) error at a below (diagnosis_recorded 4 error s))

service_counts : (call : Option Spot) (served : ServiceResult) (to : Option Binding)
    (below : List Activation) (s : State) → (after_service call served to below s).entries ≡ s.entries
service_counts call (Returns r) to below s = refl
service_counts call (Passes sched a) to below s = refl
service_counts call (Stops cause a) to below s = refl

statement_counts : (code : Code) (step : StatementStep) (ob : ℕ) (at : Option Spot)
    (below : List Activation) (s : State)
    → (after_statement code step ob at below s).entries ≡ s.entries
statement_counts code (Went a w) ob at below s = refl
statement_counts code (Ended regs w) ob at below s =
    if_counts _ (run_starts (with_activations w below s)) (with_activations w below s) s.entries
    refl refl
statement_counts code (SyncError error a) ob at below s = failed_counts code error at a below s
statement_counts code (SysCall number given a) ob at below s =
    service_counts at (system_function_served number given.inputs s.sched a) given.result below s
statement_counts code (Stop cause) ob at below s = refl
statement_counts code Stuck ob at below s = refl

stepped_on_counts : (code : Code) (activations : List Activation) (s : State)
    → (step_of_first code activations s).entries ≡ s.entries
stepped_on_counts code [] s = cycle_counts code s
stepped_on_counts code (a ∷ below) s =
    statement_counts code (statement_step code a s.store) a.ob (spot_of_frame code a.running.frame) below s

stepped_counts : (code : Code) (s : State) → (after_step code s).entries ≡ s.entries
unfolding after_step
stepped_counts code s = stepped_on_counts code s.activations s

stopped_counts : (code : Code) (cause : Option ℕ) (s : State)
    → (state_stopped_if code cause s).entries ≡ s.entries
stopped_counts code None s = refl
stopped_counts code (Some cause) s = halted_counts code cause s

tick_state_counts : (code : Code) (c : TickState) (s : State)
    → (tick_state_taken code c s).entries ≡ s.entries
tick_state_counts code c s =
    stopped_counts code c.passed.stop
    (diagnoses_recorded c.passed.records.items (record s { sched = c.sched }))
    ∙ diagnosed_counts c.passed.records.items (record s { sched = c.sched })

arrived_counts : (code : Code) (ob value : ℕ) (s : State)
    → (arrival_served code ob value s).entries ≡ s.entries
unfolding arrival_served
arrived_counts code ob value s =
    if_counts (is_stop s.mode) s
    (tick_state_taken code
    (ob_requested s.mode ob (start_info (Arrival ob value) (priority_class_in s.mode ob)) (tick_begun s.sched)) s)
    s.entries refl
    (tick_state_counts code
    (ob_requested s.mode ob (start_info (Arrival ob value) (priority_class_in s.mode ob)) (tick_begun s.sched)) s)

tick_counts : (code : Code) (c : TickState) (s : State) → (tick_taken code c s).entries ≡ s.entries
tick_counts code c s =
    tick_state_counts code c (record s { store = timers_moved c.passed.ms s.store })

passed_counts : (code : Code) (ms : ℕ) (s : State) → (time_passed code ms s).entries ≡ s.entries
unfolding time_passed
passed_counts code ms s =
    tick_counts code (after_tick s.mode (active_obs s.activations) ms s.sched) s

started_counts : (begun : Option Activation) (s : State) → (state_in_startup begun s).entries ≡ s.entries
started_counts None s = refl
started_counts (Some a) s = refl

restarted_counts : (code : Code) (s : State) → (state_after_warm_restart code s).entries ≡ s.entries
unfolding state_after_warm_restart
restarted_counts code s =
    started_counts (startup_ob s.profile code) (restart_cleared (diagnosis_recorded 6 0 s))

asked_counts : (code : Code) (request : Request) (s : State)
    → (request_effect code request s).entries ≡ s.entries
unfolding request_effect
asked_counts code (ask.ReadVars vars) s = refl
asked_counts code (ask.WriteVar var value) s = refl
asked_counts code ask.Stop s =
    if_counts (is_stop s.mode) s (stop_entered code causes.by_operator s) s.entries refl
    (halted_counts code causes.by_operator s)
asked_counts code ask.Restart s =
    if_counts (is_stop s.mode) (state_after_warm_restart code s) s s.entries (restarted_counts code s) refl
asked_counts code (ask.MonitorOn block) s =
    if_counts (is_some (code.head block)) (record s { monitored = Some block }) s s.entries refl
    refl
asked_counts code ask.MonitorOff s = refl
asked_counts code ask.Diag s = refl

effect_counts : (code : Code) (e : What) (s : State) → (entry_effect code e s).entries ≡ s.entries
effect_counts code what.Step s =
    if_counts (is_stop s.mode) s (after_step code s) s.entries refl (stepped_counts code s)
effect_counts code (what.Input byte value) s = refl
effect_counts code (what.Arrive ob value) s = arrived_counts code ob value s
effect_counts code (what.Tick ms) s = passed_counts code ms s
effect_counts code (what.Ask request) s = asked_counts code request s

after_counts : (code : Code) (e : What) (s : State)
    → (state_after code e s).entries ≡ s.entries + 1
unfolding state_after
after_counts code e s =
    settled_counts code (entry_effect code e (entry_counted s)) ∙ effect_counts code e (entry_counted s)

pub counts_entries : CountsEntries
unfolding entry_result
counts_entries code s e = after_counts code e s

run_counts : (code : Code) (s : State) (history : List What)
    → (state_after_entries code s history).entries ≡ s.entries + length history
run_counts code s [] = omega arith
run_counts code s (e ∷ rest) =
    omega (arith, run_counts code (entry_result code s e).state rest, counts_entries code s e)

start_counts : (profile : Profile) (code : Code) → (initial_state profile code).entries ≡ 0
unfolding initial_state
start_counts profile code = started_counts (startup_ob profile code) (before_start profile code)

pub counts_history : CountsHistory
unfolding replay
counts_history profile code history =
    omega (arith, run_counts code (initial_state profile code) history, start_counts profile code)
