-- No valid history leads to a stop by block depth or local data where a certificate holds.
use Rattle.plc_base.specs.declared.Profile.{Profile}
use Rattle.std.proofs.Common.{◌≡◌, ℕ, ◌+◌, Bool, true, false, List, [], ◌∷◌, Option, Some, None, refl, sym, ◌∙◌, subst, if◌then◌else◌}
use Rattle.std.specs.Prelude.{◌==◌, ◌||◌, not, nat_le, ◌&&◌, ◌-◌, is_some, unwrap_or}
use Rattle.std.specs.Option.{option_map}
use Rattle.plc_base.specs.StopCauses as causes
use Rattle.plc_base.specs.declared.Spot.{Spot}
use Rattle.plc_mem.specs.Areas.{Areas}
use Rattle.frames.specs.Activations.{activation_begun, with_local_byte}
use Rattle.frames.specs.declared.Activation.{Activation}
use Rattle.frames.specs.declared.bindings.Binding.{Binding}
use Rattle.flat_code.specs.Loading.{Verifies}
use Rattle.flat_code.specs.Programs.{Program}
use Rattle.machine.specs.Code.{Code, BlockHead}
use Rattle.machine.specs.Flat.{code_of}
use Rattle.machine.specs.Statement.{StatementStep, Went, Ended, SyncError, SysCall, Stop as StopsBy, Stuck, statement_step}
use Rattle.ob_sched.specs.TickState.{TickState, ob_requested}
use Rattle.ob_sched.specs.Millisecond.{tick_begun, after_tick}
use Rattle.ob_sched.specs.OrganizationBlock.{priority_class_in, is_delay}
use Rattle.ob_sched.specs.StartRequest.{best_of}
use Rattle.ob_sched.specs.Scheduler.{Scheduler, delay_of, delay_started, delay_cancelled, cycle_retriggered}
use Rattle.ob_sched.specs.StartInformation.{ob_of_error, start_info}
use Rattle.ob_sched.specs.declared.requests.Pending.{Pending}
use Rattle.ob_sched.specs.declared.start_infos.StartEvent.TheVariants.{Arrival}
use Rattle.ob_sched.specs.declared.start_infos.StartInfo.{StartInfo}
use Rattle.sys_funcs.specs.Disabling.{selection_error_code}
use Rattle.sys_funcs.specs.Functions.{dis_airt, en_airt, interrupts_disabled_or_error, dis_irt, en_irt, srt_dint, can_dint, time_tck, with_delay}
use Rattle.sys_funcs.specs.Results.{SystemFunctionResult, int_result, with_br_set}
use Rattle.var_access.specs.declared.What.{What}
use Rattle.var_access.specs.declared.What.TheVariants as what
use Rattle.var_access.specs.declared.Request.{Request}
use Rattle.var_access.specs.declared.Request.TheVariants as request
use Rattle.controller.specs.Asking.{request_effect}
use Rattle.machine.specs.Lasting.{ob_block}
use Rattle.controller.specs.Beginning.{ob_frame, with_start_bytes, ob_begun, ob_activation, with_ob_begun}
use Rattle.controller.specs.CyclePoint.{cycle_point, cycle_finished, cycle_info}
use Rattle.controller.specs.Errors.{is_synchronous, cause_without, error_event, with_caller_registers, error_in, error_ob_started, error_raised}
use Rattle.controller.specs.Event.{entry_counted, entry_effect, state_after}
use Rattle.controller.specs.Fitting.{AllFit, AreInRange, EntriesKeepFit, IsFit, StartIsFit}
use Rattle.controller.specs.Replay.{entry_result, state_after_entries, replay}
use Rattle.controller.specs.Requests.{state_stopped_if, tick_state_taken, arrival_served}
use Rattle.controller.specs.Serving.{ServiceResult, Returns, Passes, Stops as Halts, in_parameter, system_function_served, result_given, after_service}
use Rattle.controller.specs.Settling.{may_start, request_taken, request_started, best_started, after_settling}
use Rattle.controller.specs.Start.{before_start, restart_cleared, state_after_warm_restart, initial_state, state_in_startup, startup_info, startup_ob}
use Rattle.controller.specs.State.{State, is_stop, diagnosis_recorded, diagnoses_recorded}
use Rattle.controller.specs.Stepping.{after_step, step_of_first, after_statement, run_starts, ob_ended, with_activations}
use Rattle.controller.specs.Stopping.{stop_entered, stop_entered_at, running_spot, spot_of_frame}
use Rattle.controller.specs.Ticking.{active_obs, time_passed, timers_moved}
use Rattle.stack_bound.specs.Certificates.{bound_of}
use Rattle.stack_bound.specs.Overflow.{is_stack_overflow, NeverOverflows}
use Rattle.stack_bound.proofs.Stacks.{Roomy, stack_of, RoomFor, HasRoom, Certifies}
use Rattle.stack_bound.specs.declared.certificates.Bound.{Bound}
use Rattle.stack_bound.proofs.Causes.{NoOverflow, requested_fine, ticked_fine}
use Rattle.stack_bound.proofs.Room.{StepHasRoom, statement_room, byte_stack, byte_profile}

abbrev AllRoom : Profile → List Bound → List Activation → Type 0
AllRoom z c [] = Unit {0}
AllRoom z c (a ∷ below) = Roomy z c a × AllRoom z c below

-- every activation that stands has room, and the mode is no stop by depth or local data
record Bounded (z : Profile) (c : List Bound) (s : State) : Type 0 where
  pub profile : s.profile ≡ z
  pub room : AllRoom z c s.activations
  pub mode : is_stack_overflow s.mode ≡ false

-- ---- organization blocks that begin

abbrev RoomIf : Profile → List Bound → Option Activation → Type 0
RoomIf z c None = Unit {0}
RoomIf z c (Some a) = Roomy z c a

with_start_bytes_profile : (bytes : List ℕ) (byte : ℕ) (a : Activation)
    → (with_start_bytes byte bytes a).profile ≡ a.profile
with_start_bytes_profile [] byte a = refl
with_start_bytes_profile (value ∷ rest) byte a =
    with_start_bytes_profile rest (byte + 1) (unwrap_or (with_local_byte 0 byte value a) a)
    ∙ byte_profile byte value a

with_start_bytes_stack : (bytes : List ℕ) (byte : ℕ) (a : Activation)
    → stack_of (with_start_bytes byte bytes a) ≡ stack_of a
with_start_bytes_stack [] byte a = refl
with_start_bytes_stack (value ∷ rest) byte a =
    with_start_bytes_stack rest (byte + 1) (unwrap_or (with_local_byte 0 byte value a) a)
    ∙ byte_stack byte value a

begun_room : (z : Profile) (c : List Bound) (class ob : ℕ) (info : StartInfo) (h : BlockHead)
    → RoomFor z (bound_of (ob_block ob) c) [] → Roomy z c (ob_begun z class ob info h)
unfolding ob_begun
begun_room z c class ob info h room = (
  with_start_bytes_profile info.bytes 0 (activation_begun z class ob (ob_frame ob h)),
  subst (λ (stack : List _). HasRoom z c stack)
      (sym (with_start_bytes_stack info.bytes 0 (activation_begun z class ob (ob_frame ob h)))) (room, tt),
)

ob_room_by : (z : Profile) (code : Code) (c : List Bound) (class ob : ℕ) (info : StartInfo) (found : Option BlockHead)
    → Certifies z code c → code.head (ob_block ob) ≡ found
    → RoomIf z c (option_map (ob_begun z class ob info) found)
ob_room_by z code c class ob info None holds is = tt
ob_room_by z code c class ob info (Some h) holds is =
    begun_room z c class ob info h (holds.obs ob (rw is refl))

ob_room : (z : Profile) (code : Code) (c : List Bound) (class ob : ℕ) (info : StartInfo) → Certifies z code c
    → RoomIf z c (ob_activation z code class ob info)
ob_room z code c class ob info holds =
    ob_room_by z code c class ob info (code.head (ob_block ob)) holds refl

begins_room : (z : Profile) (c : List Bound) (one : Option Activation) (s : State) → RoomIf z c one → Bounded z c s
    → Bounded z c (with_ob_begun one s)
begins_room z c None s one b = b
begins_room z c (Some a) s one b = record { profile = b.profile; room = (one, b.room); mode = b.mode }

-- ---- records and stops

each_bounded : (z : Profile) (c : List Bound) (records : List (ℕ × ℕ)) (s : State) → Bounded z c s
    → Bounded z c (diagnoses_recorded records s)
each_bounded z c [] s b = b
each_bounded z c (one ∷ rest) s b =
    each_bounded z c rest (diagnosis_recorded one.0 one.1 s) (record { profile = b.profile; room = b.room; mode = b.mode })

halts : (z : Profile) (c : List Bound) (at : Option Spot) (cause : ℕ) (s : State) → s.profile ≡ z
    → (cause == 6 || cause == 7) ≡ false → Bounded z c (stop_entered_at at cause s)
halts z c at cause s sized fine = record { profile = sized; room = tt; mode = fine }

halted_bounded : (z : Profile) (code : Code) (c : List Bound) (cause : ℕ) (s : State)
    → s.profile ≡ z
    → (cause == 6 || cause == 7) ≡ false → Bounded z c (stop_entered code cause s)
unfolding stop_entered
halted_bounded z code c cause s sized fine = halts z c (running_spot code s.activations) cause s sized fine

-- ---- synchronous errors

copied_room : (z : Profile) (c : List Bound) (a : Activation) (one : Option Activation) → RoomIf z c one
    → RoomIf z c (option_map (with_caller_registers a) one)
copied_room z c a None room = tt
copied_room z c a (Some fresh) room = room

without_fine : (ob : ℕ) → (cause_without ob == 6 || cause_without ob == 7) ≡ false
without_fine ob = by (ob == 122)
  where
    by : (test : Bool) → ((if test then causes.no_ob_122 else causes.no_ob_121) == 6 || (if test then causes.no_ob_122 else causes.no_ob_121) == 7) ≡ false
    by true = refl
    by false = refl

answers : (z : Profile) (c : List Bound) (one : Option Activation) (error : ℕ) (at : Option Spot) (a : Activation)
    (below : List Activation) (s : State) → RoomIf z c one → AllRoom z c (a ∷ below) → Bounded z c s
    → Bounded z c (error_ob_started one error at a below s)
answers z c None error at a below s one all b =
    halts z c at (cause_without (ob_of_error error)) s b.profile (without_fine (ob_of_error error))
answers z c (Some fresh) error at a below s one all b = record { profile = b.profile; room = (one, all); mode = b.mode }

failed_bounded : (z : Profile) (code : Code) (c : List Bound) (error : ℕ) (at : Option Spot) (a : Activation)
    (below : List Activation) (s : State) → Certifies z code c → AllRoom z c (a ∷ below) → Bounded z c s
    → Bounded z c (error_raised code error at a below s)
unfolding error_raised
failed_bounded z code c error at a below s holds all b = by (is_synchronous a.ob)
  where
    recorded : Bounded z c (diagnosis_recorded 4 error s)
    recorded = record { profile = b.profile; room = b.room; mode = b.mode }

    by : (test : Bool)
        → Bounded z c (if test then stop_entered_at at causes.in_error_ob (diagnosis_recorded 4 error s)
        else error_ob_started (error_in code error at a) error at a below (diagnosis_recorded 4 error s))
    by true = halts z c at causes.in_error_ob (diagnosis_recorded 4 error s) b.profile refl
    by false =
        answers z c (error_in code error at a) error at a below (diagnosis_recorded 4 error s)
        (subst (λ (f : Profile). RoomIf z c (option_map (with_caller_registers a)
        (ob_activation f code a.class (ob_of_error error) (start_info (error_event error at) a.class)))) (sym all.0.0)
        (copied_room z c a _
        (ob_room z code c a.class (ob_of_error error) (start_info (error_event error at) a.class) holds)))
        all recorded

-- ---- system functions

abbrev SameStack : Activation → Activation → Type 0
SameStack a b = (b.profile ≡ a.profile) × (stack_of b ≡ stack_of a)

abbrev ServedStack : Activation → ServiceResult → Type 0
ServedStack a (Returns r) = SameStack a r.activation
ServedStack a (Passes sched b) = SameStack a b
ServedStack a (Halts cause b) = (cause == 6 || cause == 7) ≡ false

if_returned : (test : Bool) (a : Activation) (x y : SystemFunctionResult) → SameStack a x.activation
    → SameStack a y.activation → SameStack a (if test then x else y).activation
if_returned true a x y one other = one
if_returned false a x y one other = other

en_airt_same : (s : Scheduler) (a : Activation) → SameStack a (en_airt s a).activation
unfolding en_airt
en_airt_same s a =
    if_returned (a.delay == 0) a (int_result s a 0x8080)
    (int_result s (with_delay (a.delay - 1) a) (a.delay - 1)) (refl, refl) (refl, refl)

dis_airt_same : (s : Scheduler) (a : Activation) → SameStack a (dis_airt s a).activation
unfolding dis_airt
dis_airt_same s a = (refl, refl)

set_same : (code : Option ℕ) (disabled : Bool) (mode ob_nr : ℕ) (s : Scheduler) (a : Activation)
    → SameStack a (interrupts_disabled_or_error code disabled mode ob_nr s a).activation
set_same (Some code) disabled mode ob_nr s a = (refl, refl)
set_same None disabled mode ob_nr s a = (refl, refl)

dis_irt_same : (s : Scheduler) (a : Activation) (mode ob_nr : ℕ)
    → SameStack a (dis_irt s a mode ob_nr).activation
unfolding dis_irt
dis_irt_same s a mode ob_nr = set_same (selection_error_code mode ob_nr) true mode ob_nr s a

en_irt_same : (s : Scheduler) (a : Activation) (mode ob_nr : ℕ)
    → SameStack a (en_irt s a mode ob_nr).activation
unfolding en_irt
en_irt_same s a mode ob_nr = set_same (selection_error_code mode ob_nr) false mode ob_nr s a

srt_dint_same : (s : Scheduler) (a : Activation) (ob_nr dtime sign : ℕ)
    → SameStack a (srt_dint s a ob_nr dtime sign).activation
unfolding srt_dint
srt_dint_same s a ob_nr dtime sign =
    if_returned (not (is_delay ob_nr)) a (int_result s a 0x8090)
    (if not (nat_le 1 dtime && nat_le dtime 60000) then int_result s a 0x8091
    else int_result (delay_started ob_nr dtime s) a 0) (refl, refl)
    (if_returned (not (nat_le 1 dtime && nat_le dtime 60000)) a (int_result s a 0x8091)
    (int_result (delay_started ob_nr dtime s) a 0) (refl, refl) (refl, refl))

can_dint_same : (s : Scheduler) (a : Activation) (ob_nr : ℕ)
    → SameStack a (can_dint s a ob_nr).activation
unfolding can_dint
can_dint_same s a ob_nr =
    if_returned (not (is_delay ob_nr)) a (int_result s a 0x8090)
    (if is_some (delay_of s.countdowns ob_nr) then int_result (delay_cancelled ob_nr s) a 0
    else int_result s a 0x80A0) (refl, refl)
    (if_returned (is_some (delay_of s.countdowns ob_nr)) a (int_result (delay_cancelled ob_nr s) a 0)
    (int_result s a 0x80A0) (refl, refl) (refl, refl))

time_tck_same : (s : Scheduler) (a : Activation) → SameStack a (time_tck s a).activation
unfolding time_tck
time_tck_same s a = (refl, refl)

if_served : (test : Bool) (a : Activation) (x y : ServiceResult) → ServedStack a x → ServedStack a y
    → ServedStack a (if test then x else y)
if_served true a x y one other = one
if_served false a x y one other = other

served_same : (number : ℕ) (inputs : List ℕ) (s : Scheduler) (a : Activation)
    → ServedStack a (system_function_served number inputs s a)
unfolding system_function_served
served_same number inputs s a =
    if_served (number == 32) a _ _
    (srt_dint_same s a (in_parameter 0 inputs) (in_parameter 1 inputs) (in_parameter 2 inputs))
    (if_served (number == 33) a _ _ (can_dint_same s a (in_parameter 0 inputs))
    (if_served (number == 39) a _ _ (dis_irt_same s a (in_parameter 0 inputs) (in_parameter 1 inputs))
    (if_served (number == 40) a _ _ (en_irt_same s a (in_parameter 0 inputs) (in_parameter 1 inputs))
    (if_served (number == 41) a _ _ (dis_airt_same s a)
    (if_served (number == 42) a _ _ (en_airt_same s a)
    (if_served (number == 43) a (Passes (cycle_retriggered s) (with_br_set a)) _ (refl, refl)
    (if_served (number == 46) a (Halts causes.by_program (with_br_set a)) _ refl (time_tck_same s a))))))))

given_stack : (to : Option Binding) (value : ℕ) (a : Activation) (m : Areas)
    → stack_of (result_given to value a m).activation ≡ stack_of a
given_stack None value a m = refl
given_stack (Some to) value a m = refl

given_profile : (to : Option Binding) (value : ℕ) (a : Activation) (m : Areas)
    → (result_given to value a m).activation.profile ≡ a.profile
given_profile None value a m = refl
given_profile (Some to) value a m = refl

service_bounded : (z : Profile) (c : List Bound) (call : Option Spot) (sv : ServiceResult) (to : Option Binding)
    (a : Activation) (below : List Activation) (s : State) → ServedStack a sv
    → AllRoom z c (a ∷ below) → Bounded z c s → Bounded z c (after_service call sv to below s)
service_bounded z c call (Returns r) to a below s same all b = record {
  profile = b.profile;
  room = (
    (
      given_profile to r.value r.activation s.store.memory ∙ same.0 ∙ all.0.0,
      subst (λ (stack : List _). HasRoom z c stack)
          (sym (given_stack to r.value r.activation s.store.memory ∙ same.1)) all.0.1,
    ),
    all.1,
  );
  mode = b.mode;
}
service_bounded z c call (Passes sched d) to a below s same all b = record {
  profile = b.profile;
  room = ((same.0 ∙ all.0.0, subst (λ (stack : List _). HasRoom z c stack) (sym same.1) all.0.1), all.1);
  mode = b.mode;
}
service_bounded z c call (Halts cause d) to a below s same all b = halts z c call cause s b.profile same

-- ---- a step

run_bounded : (z : Profile) (c : List Bound) (s : State) → s.profile ≡ z → AllRoom z c s.activations → Bounded z c (run_starts s)
run_bounded z c s sized room = record { profile = sized; room = room; mode = refl }

ended_bounded : (z : Profile) (c : List Bound) (ob : ℕ) (s : State) → Bounded z c s → Bounded z c (ob_ended ob s)
ended_bounded z c ob s b = by (ob == 100)
  where
    by : (test : Bool) → Bounded z c (if test then run_starts s else s)
    by true = run_bounded z c s b.profile b.room
    by false = b

statement_bounded : (z : Profile) (code : Code) (c : List Bound) (step : StatementStep) (ob : ℕ) (at : Option Spot)
    (below : List Activation) (s : State) → Certifies z code c → StepHasRoom z c step
    → AllRoom z c below → Bounded z c s → Bounded z c (after_statement code step ob at below s)
statement_bounded z code c (Went d w) ob at below s holds room rest b = record {
  profile = b.profile;
  room = (room, rest);
  mode = b.mode;
}
statement_bounded z code c (Ended regs w) ob at below s holds room rest b =
    ended_bounded z c ob (with_activations w below s) (record { profile = b.profile; room = rest; mode = b.mode })
statement_bounded z code c (SyncError error d) ob at below s holds room rest b =
    failed_bounded z code c error at d below s holds (room, rest) b
statement_bounded z code c (SysCall number given d) ob at below s holds room rest b =
    service_bounded z c at (system_function_served number given.inputs s.sched d) given.result d below s
    (served_same number given.inputs s.sched d) (room, rest) b
statement_bounded z code c (StopsBy cause) ob at below s holds room rest b = absurd room
statement_bounded z code c Stuck ob at below s holds room rest b = b

cycle_bounded : (z : Profile) (code : Code) (c : List Bound) (s : State) → Certifies z code c → Bounded z c s
    → Bounded z c (cycle_point code s)
unfolding cycle_point
cycle_bounded z code c s holds b =
    begins_room z c (ob_activation s.profile code (priority_class_in s.mode 1) 1 (cycle_info s)) (cycle_finished s)
    (subst (λ (f : Profile). RoomIf z c (ob_activation f code (priority_class_in s.mode 1) 1 (cycle_info s))) (sym b.profile)
    (ob_room z code c (priority_class_in s.mode 1) 1 (cycle_info s) holds))
    (record { profile = b.profile; room = b.room; mode = b.mode })

stepped_on_bounded : (z : Profile) (p : Program) (c : List Bound) (activations : List Activation) (s : State)
    → Certifies z (code_of p) c → AllFit p s.store.memory activations → AllRoom z c activations
    → Bounded z c s → Bounded z c (step_of_first (code_of p) activations s)
stepped_on_bounded z p c [] s holds fit all b = cycle_bounded z (code_of p) c s holds b
stepped_on_bounded z p c (a ∷ below) s holds fit all b =
    statement_bounded z (code_of p) c (statement_step (code_of p) a s.store) a.ob
    (spot_of_frame (code_of p) a.running.frame) below s holds
    (statement_room z p c a s.store holds fit.0 all.0) all.1 b

step_bounded : (z : Profile) (p : Program) (c : List Bound) (s : State) → Certifies z (code_of p) c → IsFit p s
    → Bounded z c s → Bounded z c (after_step (code_of p) s)
unfolding after_step
step_bounded z p c s holds fit b =
    stepped_on_bounded z p c s.activations s holds fit.activations b.room b

either_bounded : (z : Profile) (c : List Bound) (test : Bool) (s t : State) → Bounded z c s → Bounded z c t
    → Bounded z c (if test then s else t)
either_bounded z c true s t one other = one
either_bounded z c false s t one other = other

-- ---- arrivals and passing time

stopped_bounded : (z : Profile) (code : Code) (c : List Bound) (cause : Option ℕ) (s : State) → NoOverflow cause
    → Bounded z c s → Bounded z c (state_stopped_if code cause s)
stopped_bounded z code c None s fine b = b
stopped_bounded z code c (Some cause) s fine b = halted_bounded z code c cause s b.profile fine

tick_state_bounded : (z : Profile) (code : Code) (c : List Bound) (tick : TickState) (s : State)
    → NoOverflow tick.passed.stop → Bounded z c s → Bounded z c (tick_state_taken code tick s)
tick_state_bounded z code c tick s fine b =
    stopped_bounded z code c tick.passed.stop
    (diagnoses_recorded tick.passed.records.items (record s { sched = tick.sched })) fine
    (each_bounded z c tick.passed.records.items (record s { sched = tick.sched })
    (record { profile = b.profile; room = b.room; mode = b.mode }))

arrived_bounded : (z : Profile) (code : Code) (c : List Bound) (ob value : ℕ) (s : State) → Bounded z c s
    → Bounded z c (arrival_served code ob value s)
unfolding arrival_served
arrived_bounded z code c ob value s b =
    either_bounded z c (is_stop s.mode) s _ b
    (tick_state_bounded z code c
    (ob_requested s.mode ob (start_info (Arrival ob value) (priority_class_in s.mode ob)) (tick_begun s.sched)) s
    (requested_fine s.mode ob (start_info (Arrival ob value) (priority_class_in s.mode ob))
    (tick_begun s.sched) tt) b)

time_bounded : (z : Profile) (code : Code) (c : List Bound) (ms : ℕ) (s : State) → Bounded z c s
    → Bounded z c (time_passed code ms s)
unfolding time_passed
time_bounded z code c ms s b =
    tick_state_bounded z code c (after_tick s.mode (active_obs s.activations) ms s.sched)
    (record s { store = timers_moved (after_tick s.mode (active_obs s.activations) ms s.sched).passed.ms s.store })
    (ticked_fine s.mode (active_obs s.activations) ms s.sched) (record { profile = b.profile; room = b.room; mode = b.mode })

started_bounded : (z : Profile) (c : List Bound) (one : Option Activation) (s : State) → RoomIf z c one
    → Bounded z c s → Bounded z c (state_in_startup one s)
started_bounded z c None s one b = run_bounded z c s b.profile b.room
started_bounded z c (Some a) s one b = record { profile = b.profile; room = (one, b.room); mode = refl }

-- ---- requests of operators

restarted_bounded : (z : Profile) (code : Code) (c : List Bound) (s : State) → Certifies z code c
    → Bounded z c s → Bounded z c (state_after_warm_restart code s)
unfolding state_after_warm_restart
restarted_bounded z code c s holds b =
    started_bounded z c (startup_ob s.profile code) (restart_cleared (diagnosis_recorded 6 0 s))
    (subst (λ (f : Profile). RoomIf z c (startup_ob f code)) (sym b.profile)
    (ob_room z code c 27 100 startup_info holds))
    (record { profile = b.profile; room = b.room; mode = b.mode })

asked_bounded : (z : Profile) (code : Code) (c : List Bound) (r : Request) (s : State) → Certifies z code c
    → Bounded z c s → Bounded z c (request_effect code r s)
unfolding request_effect
asked_bounded z code c (request.ReadVars vars) s holds b = b
asked_bounded z code c (request.WriteVar var value) s holds b =
    record { profile = b.profile; room = b.room; mode = b.mode }
asked_bounded z code c request.Stop s holds b =
    either_bounded z c (is_stop s.mode) s _ b
    (halted_bounded z code c causes.by_operator s b.profile refl)
asked_bounded z code c request.Restart s holds b =
    either_bounded z c (is_stop s.mode) _ s (restarted_bounded z code c s holds b) b
asked_bounded z code c (request.MonitorOn block) s holds b =
    either_bounded z c (is_some (code.head block)) _ s
    (record { profile = b.profile; room = b.room; mode = b.mode }) b
asked_bounded z code c request.MonitorOff s holds b =
    record { profile = b.profile; room = b.room; mode = b.mode }
asked_bounded z code c request.Diag s holds b = b

-- ---- an entry

effect_bounded : (z : Profile) (p : Program) (c : List Bound) (e : What) (s : State) → Certifies z (code_of p) c
    → IsFit p s → Bounded z c s → Bounded z c (entry_effect (code_of p) e s)
effect_bounded z p c what.Step s holds fit b =
    either_bounded z c (is_stop s.mode) s (after_step (code_of p) s) b (step_bounded z p c s holds fit b)
effect_bounded z p c (what.Input byte value) s holds fit b = record { profile = b.profile; room = b.room; mode = b.mode }
effect_bounded z p c (what.Arrive ob value) s holds fit b = arrived_bounded z (code_of p) c ob value s b
effect_bounded z p c (what.Tick ms) s holds fit b = time_bounded z (code_of p) c ms s b
effect_bounded z p c (what.Ask request) s holds fit b = asked_bounded z (code_of p) c request s holds b

best_bounded : (z : Profile) (code : Code) (c : List Bound) (best : Option Pending) (s : State)
    → Certifies z code c → Bounded z c s → Bounded z c (best_started code best s)
best_bounded z code c None s holds b = b
best_bounded z code c (Some best) s holds b =
    either_bounded z c (may_start best.class s.activations) (request_started code best s) s
    (begins_room z c (ob_activation s.profile code best.class best.ob best.info) (request_taken s)
    (subst (λ (f : Profile). RoomIf z c (ob_activation f code best.class best.ob best.info)) (sym b.profile)
    (ob_room z code c best.class best.ob best.info holds)) (record { profile = b.profile; room = b.room; mode = b.mode })) b

settled_bounded : (z : Profile) (code : Code) (c : List Bound) (s : State) → Certifies z code c → Bounded z c s
    → Bounded z c (after_settling code s)
unfolding after_settling
settled_bounded z code c s holds b =
    either_bounded z c (is_stop s.mode) s (best_started code (best_of s.mode s.sched.pending) s) b
    (best_bounded z code c (best_of s.mode s.sched.pending) s holds b)

counted_fit : (p : Program) (s : State) → IsFit p s → IsFit p (entry_counted s)
counted_fit p s fit = record {
  memory = fit.memory;
  activations = fit.activations;
  activation_stack = fit.activation_stack;
  sched = fit.sched;
}

entry_bounded : (z : Profile) (p : Program) (c : List Bound) (e : What) (s : State) → Certifies z (code_of p) c
    → IsFit p s → Bounded z c s → Bounded z c (entry_result (code_of p) s e).state
unfolding entry_result state_after
entry_bounded z p c e s holds fit b =
    settled_bounded z (code_of p) c (entry_effect (code_of p) e (entry_counted s)) holds
    (effect_bounded z p c e (entry_counted s) holds (counted_fit p s fit)
    (record { profile = b.profile; room = b.room; mode = b.mode }))

run_from_bounded : (z : Profile) (p : Program) (c : List Bound) (history : List What) (s : State) → EntriesKeepFit
    → Verifies p → Certifies z (code_of p) c → AreInRange history → IsFit p s → Bounded z c s
    → Bounded z c (state_after_entries (code_of p) s history)
run_from_bounded z p c [] s keep verifies holds range fit b = b
run_from_bounded z p c (e ∷ rest) s keep verifies holds range fit b =
    run_from_bounded z p c rest (entry_result (code_of p) s e).state keep verifies holds range.1
    (keep p s e verifies range.0 fit) (entry_bounded z p c e s holds fit b)

start_bounded : (z : Profile) (code : Code) (c : List Bound) → Certifies z code c → Bounded z c (initial_state z code)
unfolding initial_state
start_bounded z code c holds =
    started_bounded z c (startup_ob z code) (before_start z code) (ob_room z code c 27 100 startup_info holds)
    (record { profile = refl; room = tt; mode = refl })

pub never_overflows : (z : Profile) (p : Program) (c : List Bound) → StartIsFit → EntriesKeepFit → Verifies p
    → Certifies z (code_of p) c → NeverOverflows z p
unfolding replay
never_overflows z p c first keep verifies holds history range =
    (run_from_bounded z p c history (initial_state z (code_of p)) keep verifies holds range (first z p verifies)
    (start_bounded z (code_of p) c holds)).mode
