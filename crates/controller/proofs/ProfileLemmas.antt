-- Nothing that an entry does changes the profile.
use Rattle.std.proofs.Common.{◌≡◌, ℕ, Bool, true, false, List, [], ◌∷◌, Option, Some, None, refl, ◌∙◌, if◌then◌else◌}
use Rattle.std.specs.Prelude.{is_some}
use Rattle.plc_base.specs.StopCauses as causes
use Rattle.plc_base.specs.declared.Profile.{Profile}
use Rattle.plc_base.specs.declared.Spot.{Spot}
use Rattle.frames.specs.declared.Activation.{Activation}
use Rattle.frames.specs.declared.bindings.Binding.{Binding}
use Rattle.machine.specs.Code.{Code}
use Rattle.machine.specs.Statement.{StatementStep, Went, Ended, SyncError, SysCall, Stop, Stuck, statement_step}
use Rattle.ob_sched.specs.TickState.{TickState, ob_requested}
use Rattle.ob_sched.specs.Millisecond.{tick_begun, after_tick}
use Rattle.ob_sched.specs.OrganizationBlock.{priority_class_in}
use Rattle.ob_sched.specs.StartRequest.{best_of}
use Rattle.ob_sched.specs.StartInformation.{start_info}
use Rattle.ob_sched.specs.declared.requests.Pending.{Pending}
use Rattle.ob_sched.specs.declared.start_infos.StartEvent.TheVariants.{Arrival}
use Rattle.var_access.specs.declared.Request.{Request}
use Rattle.var_access.specs.declared.Request.TheVariants as ask
use Rattle.var_access.specs.declared.What.{What}
use Rattle.var_access.specs.declared.What.TheVariants as what
use Rattle.controller.specs.Asking.{request_effect}
use Rattle.controller.specs.Beginning.{ob_activation, with_ob_begun}
use Rattle.controller.specs.CyclePoint.{cycle_point, cycle_info, cycle_finished}
use Rattle.controller.specs.Errors.{error_raised, error_ob_started, error_in, is_synchronous}
use Rattle.controller.specs.Event.{entry_counted, entry_effect, state_after}
use Rattle.controller.specs.Replay.{entry_result, state_after_entries, replay, EntriesKeepProfile, HistoriesKeepProfile}
use Rattle.controller.specs.Requests.{state_stopped_if, tick_state_taken, arrival_served}
use Rattle.controller.specs.Serving.{ServiceResult, Returns, Passes, Stops, after_service, system_function_served}
use Rattle.controller.specs.Settling.{after_settling, best_started, request_started, request_taken, may_start}
use Rattle.controller.specs.Start.{before_start, restart_cleared, state_after_warm_restart, initial_state, state_in_startup, startup_ob}
use Rattle.controller.specs.State.{State, is_stop, diagnosis_recorded, diagnoses_recorded}
use Rattle.controller.specs.Stepping.{after_step, step_of_first, after_statement, run_starts, with_activations}
use Rattle.controller.specs.Stopping.{stop_entered, stop_entered_at, spot_of_frame}
use Rattle.controller.specs.Ticking.{time_passed, tick_taken, active_obs, timers_moved}

if_stays : (test : Bool) (s t : State) (profile : Profile) → s.profile ≡ profile → t.profile ≡ profile
    → (if test then s else t).profile ≡ profile
if_stays true s t profile one other = one
if_stays false s t profile one other = other

diagnosed_stays : (records : List (ℕ × ℕ)) (s : State)
    → (diagnoses_recorded records s).profile ≡ s.profile
diagnosed_stays [] s = refl
diagnosed_stays (one ∷ rest) s = diagnosed_stays rest (diagnosis_recorded one.0 one.1 s)

begun_stays : (begun : Option Activation) (s : State)
    → (with_ob_begun begun s).profile ≡ s.profile
begun_stays None s = refl
begun_stays (Some a) s = refl

halted_stays : (code : Code) (cause : ℕ) (s : State) → (stop_entered code cause s).profile ≡ s.profile
unfolding stop_entered
halted_stays code cause s = refl

best_stays : (code : Code) (best : Option Pending) (s : State)
    → (best_started code best s).profile ≡ s.profile
best_stays code None s = refl
best_stays code (Some best) s =
    if_stays (may_start best.class s.activations) (request_started code best s) s s.profile
    (begun_stays (ob_activation s.profile code best.class best.ob best.info) (request_taken s)) refl

settled_stays : (code : Code) (s : State) → (after_settling code s).profile ≡ s.profile
unfolding after_settling
settled_stays code s =
    if_stays (is_stop s.mode) s (best_started code (best_of s.mode s.sched.pending) s) s.profile
    refl (best_stays code (best_of s.mode s.sched.pending) s)

cycle_stays : (code : Code) (s : State) → (cycle_point code s).profile ≡ s.profile
unfolding cycle_point
cycle_stays code s =
    begun_stays (ob_activation s.profile code (priority_class_in s.mode 1) 1 (cycle_info s)) (cycle_finished s)

answered_stays : (fresh : Option Activation) (error : ℕ) (at : Option Spot) (a : Activation)
    (below : List Activation) (s : State) → (error_ob_started fresh error at a below s).profile ≡ s.profile
answered_stays None error at a below s = refl
answered_stays (Some fresh) error at a below s = refl

failed_stays : (code : Code) (error : ℕ) (at : Option Spot) (a : Activation)
    (below : List Activation) (s : State) → (error_raised code error at a below s).profile ≡ s.profile
unfolding error_raised
failed_stays code error at a below s =
    if_stays (is_synchronous a.ob) (stop_entered_at at causes.in_error_ob (diagnosis_recorded 4 error s))
    (error_ob_started (error_in code error at a) error at a below (diagnosis_recorded 4 error s))
    s.profile refl
    (answered_stays (error_in code error at a) error at a below (diagnosis_recorded 4 error s))

service_stays : (call : Option Spot) (served : ServiceResult) (to : Option Binding)
    (below : List Activation) (s : State) → (after_service call served to below s).profile ≡ s.profile
service_stays call (Returns r) to below s = refl
service_stays call (Passes sched a) to below s = refl
service_stays call (Stops cause a) to below s = refl

statement_stays : (code : Code) (step : StatementStep) (ob : ℕ) (at : Option Spot)
    (below : List Activation) (s : State)
    → (after_statement code step ob at below s).profile ≡ s.profile
statement_stays code (Went a w) ob at below s = refl
statement_stays code (Ended regs w) ob at below s =
    if_stays _ (run_starts (with_activations w below s)) (with_activations w below s) s.profile
    refl refl
statement_stays code (SyncError error a) ob at below s = failed_stays code error at a below s
statement_stays code (SysCall number given a) ob at below s =
    service_stays at (system_function_served number given.inputs s.sched a) given.result below s
statement_stays code (Stop cause) ob at below s = refl
statement_stays code Stuck ob at below s = refl

stepped_on_stays : (code : Code) (activations : List Activation) (s : State)
    → (step_of_first code activations s).profile ≡ s.profile
stepped_on_stays code [] s = cycle_stays code s
stepped_on_stays code (a ∷ below) s =
    statement_stays code (statement_step code a s.store) a.ob (spot_of_frame code a.running.frame) below s

stepped_stays : (code : Code) (s : State) → (after_step code s).profile ≡ s.profile
unfolding after_step
stepped_stays code s = stepped_on_stays code s.activations s

stopped_stays : (code : Code) (cause : Option ℕ) (s : State)
    → (state_stopped_if code cause s).profile ≡ s.profile
stopped_stays code None s = refl
stopped_stays code (Some cause) s = halted_stays code cause s

tick_state_stays : (code : Code) (c : TickState) (s : State)
    → (tick_state_taken code c s).profile ≡ s.profile
tick_state_stays code c s =
    stopped_stays code c.passed.stop
    (diagnoses_recorded c.passed.records.items (record s { sched = c.sched }))
    ∙ diagnosed_stays c.passed.records.items (record s { sched = c.sched })

arrived_stays : (code : Code) (ob value : ℕ) (s : State)
    → (arrival_served code ob value s).profile ≡ s.profile
unfolding arrival_served
arrived_stays code ob value s =
    if_stays (is_stop s.mode) s
    (tick_state_taken code
    (ob_requested s.mode ob (start_info (Arrival ob value) (priority_class_in s.mode ob)) (tick_begun s.sched)) s)
    s.profile refl
    (tick_state_stays code
    (ob_requested s.mode ob (start_info (Arrival ob value) (priority_class_in s.mode ob)) (tick_begun s.sched)) s)

tick_stays : (code : Code) (c : TickState) (s : State) → (tick_taken code c s).profile ≡ s.profile
tick_stays code c s =
    tick_state_stays code c (record s { store = timers_moved c.passed.ms s.store })

passed_stays : (code : Code) (ms : ℕ) (s : State) → (time_passed code ms s).profile ≡ s.profile
unfolding time_passed
passed_stays code ms s =
    tick_stays code (after_tick s.mode (active_obs s.activations) ms s.sched) s

started_stays : (begun : Option Activation) (s : State) → (state_in_startup begun s).profile ≡ s.profile
started_stays None s = refl
started_stays (Some a) s = refl

restarted_stays : (code : Code) (s : State) → (state_after_warm_restart code s).profile ≡ s.profile
unfolding state_after_warm_restart
restarted_stays code s =
    started_stays (startup_ob s.profile code) (restart_cleared (diagnosis_recorded 6 0 s))

asked_stays : (code : Code) (request : Request) (s : State)
    → (request_effect code request s).profile ≡ s.profile
unfolding request_effect
asked_stays code (ask.ReadVars vars) s = refl
asked_stays code (ask.WriteVar var value) s = refl
asked_stays code ask.Stop s =
    if_stays (is_stop s.mode) s (stop_entered code causes.by_operator s) s.profile refl
    (halted_stays code causes.by_operator s)
asked_stays code ask.Restart s =
    if_stays (is_stop s.mode) (state_after_warm_restart code s) s s.profile (restarted_stays code s) refl
asked_stays code (ask.MonitorOn block) s =
    if_stays (is_some (code.head block)) (record s { monitored = Some block }) s s.profile refl
    refl
asked_stays code ask.MonitorOff s = refl
asked_stays code ask.Diag s = refl

effect_stays : (code : Code) (e : What) (s : State) → (entry_effect code e s).profile ≡ s.profile
effect_stays code what.Step s =
    if_stays (is_stop s.mode) s (after_step code s) s.profile refl (stepped_stays code s)
effect_stays code (what.Input byte value) s = refl
effect_stays code (what.Arrive ob value) s = arrived_stays code ob value s
effect_stays code (what.Tick ms) s = passed_stays code ms s
effect_stays code (what.Ask request) s = asked_stays code request s

after_stays : (code : Code) (e : What) (s : State)
    → (state_after code e s).profile ≡ s.profile
unfolding state_after
after_stays code e s =
    settled_stays code (entry_effect code e (entry_counted s)) ∙ effect_stays code e (entry_counted s)

pub entries_keep : EntriesKeepProfile
unfolding entry_result
entries_keep code s e = after_stays code e s

run_stays : (code : Code) (s : State) (history : List What) → (state_after_entries code s history).profile ≡ s.profile
run_stays code s [] = refl
run_stays code s (e ∷ rest) =
    run_stays code (entry_result code s e).state rest ∙ entries_keep code s e

start_stays : (profile : Profile) (code : Code) → (initial_state profile code).profile ≡ profile
unfolding initial_state
start_stays profile code = started_stays (startup_ob profile code) (before_start profile code)

pub histories_keep : HistoriesKeepProfile
unfolding replay
histories_keep profile code history =
    run_stays code (initial_state profile code) history ∙ start_stays profile code
