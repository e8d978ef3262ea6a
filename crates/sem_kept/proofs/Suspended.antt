-- A suspended activation is the same after each entry, unless STOP ends it.
use Rattle.std.proofs.Common.{◌≡◌, refl, sym, ◌∙◌, ap, subst, ℕ, zero, suc, ◌+◌, ◌-◌, ◌<◌, ◌≤◌, List, [], ◌∷◌, ◌++◌, length, take, Option, Some, None, Bool, true, false, cond, if◌then◌else◌, nat_eq, get_or, is_some, arith}
use Rattle.std.proofs.lemmas.Bool.{ne_eqb}
use Rattle.std.proofs.lemmas.List.{take_more}
use Rattle.plc_base.specs.StopCauses as causes
use Rattle.plc_base.specs.declared.Profile.{Profile}
use Rattle.plc_base.specs.declared.Spot.{Spot}
use Rattle.frames.specs.declared.Activation.{Activation}
use Rattle.frames.specs.declared.bindings.Binding.{Binding}
use Rattle.machine.specs.Code.{Code}
use Rattle.machine.specs.Flat.{code_of}
use Rattle.machine.specs.Statement.{StatementStep, Went, Ended, SyncError, SysCall, Stop, Stuck, statement_step}
use Rattle.ob_sched.specs.TickState.{TickState, ob_requested}
use Rattle.ob_sched.specs.Millisecond.{tick_begun, after_tick}
use Rattle.ob_sched.specs.OrganizationBlock.{priority_class_in}
use Rattle.ob_sched.specs.StartInformation.{start_info}
use Rattle.ob_sched.specs.declared.start_infos.StartEvent.TheVariants.{Arrival}
use Rattle.ob_sched.specs.StartRequest.{best_of}
use Rattle.ob_sched.specs.declared.requests.Pending.{Pending}
use Rattle.var_access.specs.declared.Request.{Request}
use Rattle.var_access.specs.declared.Request.TheVariants as request
use Rattle.var_access.specs.declared.What.{What}
use Rattle.var_access.specs.declared.What.TheVariants as entry
use Rattle.controller.specs.Asking.{request_effect}
use Rattle.controller.specs.Beginning.{ob_activation, with_ob_begun}
use Rattle.controller.specs.Errors.{is_synchronous, error_in, error_ob_started, error_raised}
use Rattle.controller.specs.Event.{entry_counted, entry_effect, state_after}
use Rattle.controller.specs.Replay.{entry_result, replay, ContinuesReplay}
use Rattle.controller.specs.Requests.{state_stopped_if, tick_state_taken, arrival_served}
use Rattle.controller.specs.Serving.{ServiceResult, Returns, Passes, Stops, system_function_served, result_given, after_service}
use Rattle.controller.specs.Settling.{may_start, request_taken, request_started, best_started, after_settling}
use Rattle.controller.specs.Start.{state_after_warm_restart}
use Rattle.controller.specs.State.{State, is_stop, diagnosis_recorded, diagnoses_recorded}
use Rattle.controller.specs.Stepping.{with_activations, run_starts, ob_ended, after_statement, step_of_first, after_step}
use Rattle.controller.specs.Stopping.{spot_of_frame, stop_entered_at, stop_entered}
use Rattle.controller.specs.Ticking.{timers_moved, active_obs, time_passed}
use Rattle.sem_kept.specs.Resumption.{state_after_first, activation_at_place, IsSuspended, Resumes, SourcesResume, ImagesResume}

-- the activation at this place is there, and is the same
record Keeps (before later : List Activation) (place : ℕ) : Type 0 where
  there : place < length later
  same : activation_at_place later place ≡ activation_at_place before place

-- one more activation on top changes nothing below it
activation_at_place-∷ : (a : Activation) (acts : List Activation) (place : ℕ) → place < length acts
    → activation_at_place (a ∷ acts) place ≡ activation_at_place acts place
activation_at_place-∷ a acts place below =
    let differs : nat_eq place (length acts) ≡ false = ne_eqb place (length acts) (λ e. omega (arith, e, below)) in
    ap (λ (b : Bool). cond b (Some a) (activation_at_place acts place)) differs

stays : (acts : List Activation) (place : ℕ) → place < length acts → Keeps acts acts place
stays acts place there = record { there = there; same = refl }

place_under_new : (a : Activation) (acts : List Activation) (place : ℕ) → place < length acts
    → Keeps acts (a ∷ acts) place
place_under_new a acts place there = record { there = omega arith; same = activation_at_place-∷ a acts place there }

place_without_top : (a : Activation) (below : List Activation) (place : ℕ) → place < length below
    → Keeps (a ∷ below) below place
place_without_top a below place there =
    record { there = there; same = sym (activation_at_place-∷ a below place there) }

place_under_other : (a b : Activation) (below : List Activation) (place : ℕ) → place < length below
    → Keeps (a ∷ below) (b ∷ below) place
place_under_other a b below place there = record {
  there = omega arith;
  same = activation_at_place-∷ b below place there ∙ sym (activation_at_place-∷ a below place there);
}

then_keeps : (first second third : List Activation) (place : ℕ)
    → Keeps first second place → Keeps second third place → Keeps first third place
then_keeps first second third place h k = record { there = k.there; same = k.same ∙ h.same }

-- ---- settling

begun_keeps : (o : Option Activation) (s : State) (place : ℕ) → place < length s.activations
    → Keeps s.activations (with_ob_begun o s).activations place
begun_keeps None s place there = stays s.activations place there
begun_keeps (Some a) s place there = place_under_new a s.activations place there

begun_mode : (o : Option Activation) (s : State) → (with_ob_begun o s).mode ≡ s.mode
begun_mode None s = refl
begun_mode (Some a) s = refl

best_keeps : (code : Code) (o : Option Pending) (s : State) (place : ℕ)
    → place < length s.activations
    → Keeps s.activations (best_started code o s).activations place
best_keeps code None s place there = stays s.activations place there
best_keeps code (Some best) s place there = by (may_start best.class s.activations)
  where
    by : (b : Bool)
        → Keeps s.activations (if b then request_started code best s else s).activations place
    by true = begun_keeps (ob_activation s.profile code best.class best.ob best.info) (request_taken s) place there
    by false = stays s.activations place there

best_mode : (code : Code) (o : Option Pending) (s : State) → (best_started code o s).mode ≡ s.mode
best_mode code None s = refl
best_mode code (Some best) s = by (may_start best.class s.activations)
  where
    by : (b : Bool) → (if b then request_started code best s else s).mode ≡ s.mode
    by true = begun_mode (ob_activation s.profile code best.class best.ob best.info) (request_taken s)
    by false = refl

settled_keeps : (code : Code) (s : State) (place : ℕ) → place < length s.activations
    → Keeps s.activations (after_settling code s).activations place
unfolding after_settling
settled_keeps code s place there = by (is_stop s.mode)
  where
    by : (b : Bool) → Keeps s.activations
        (if b then s else best_started code (best_of s.mode s.sched.pending) s).activations place
    by true = stays s.activations place there
    by false = best_keeps code (best_of s.mode s.sched.pending) s place there

settled_mode : (code : Code) (s : State) → (after_settling code s).mode ≡ s.mode
unfolding after_settling
settled_mode code s = by (is_stop s.mode)
  where
    by : (b : Bool)
        → (if b then s else best_started code (best_of s.mode s.sched.pending) s).mode ≡ s.mode
    by true = refl
    by false = best_mode code (best_of s.mode s.sched.pending) s

-- ---- a statement

answered_keeps : (old : Activation) (o : Option Activation) (error : ℕ) (at : Option Spot)
    (a : Activation) (below : List Activation) (s : State) (place : ℕ)
    → place < length below → is_stop (error_ob_started o error at a below s).mode ≡ false
    → Keeps (old ∷ below) (error_ob_started o error at a below s).activations place
answered_keeps old None error at a below s place there on = absurd cc
answered_keeps old (Some fresh) error at a below s place there on =
    then_keeps (old ∷ below) (a ∷ below) (fresh ∷ a ∷ below) place
    (place_under_other old a below place there) (place_under_new fresh (a ∷ below) place (omega (arith, there)))

failed_keeps : (code : Code) (old : Activation) (error : ℕ) (at : Option Spot) (a : Activation)
    (below : List Activation) (s : State) (place : ℕ)
    → place < length below → is_stop (error_raised code error at a below s).mode ≡ false
    → Keeps (old ∷ below) (error_raised code error at a below s).activations place
unfolding error_raised
failed_keeps code old error at a below s place there on = by (is_synchronous a.ob) on
  where
    stops : State
    stops = stop_entered_at at causes.in_error_ob (diagnosis_recorded 4 error s)

    answered : State
    answered = error_ob_started (error_in code error at a) error at a below (diagnosis_recorded 4 error s)

    by : (b : Bool) → is_stop (if b then stops else answered).mode ≡ false
        → Keeps (old ∷ below) (if b then stops else answered).activations place
    by true on = absurd cc
    by false on =
        answered_keeps old (error_in code error at a) error at a below (diagnosis_recorded 4 error s) place
        there on

serves_keeps : (old : Activation) (at : Option Spot) (r : ServiceResult) (to : Option Binding)
    (below : List Activation) (s : State) (place : ℕ)
    → place < length below → is_stop (after_service at r to below s).mode ≡ false
    → Keeps (old ∷ below) (after_service at r to below s).activations place
serves_keeps old at (Returns r) to below s place there on =
    place_under_other old (result_given to r.value r.activation s.store.memory).activation below place there
serves_keeps old at (Passes sched a) to below s place there on = place_under_other old a below place there
serves_keeps old at (Stops cause a) to below s place there on = absurd cc

ended_same : (ob : ℕ) (s : State) → (ob_ended ob s).activations ≡ s.activations
ended_same ob s = by (nat_eq ob 100)
  where
    by : (b : Bool) → (if b then run_starts s else s).activations ≡ s.activations
    by true = refl
    by false = refl

statement_keeps : (code : Code) (old : Activation) (step : StatementStep) (ob : ℕ) (at : Option Spot)
    (below : List Activation) (s : State) (place : ℕ)
    → s.activations ≡ old ∷ below → place < length below
    → is_stop (after_statement code step ob at below s).mode ≡ false
    → Keeps (old ∷ below) (after_statement code step ob at below s).activations place
statement_keeps code old (Went a w) ob at below s place were there on =
    place_under_other old a below place there
statement_keeps code old (Ended regs w) ob at below s place were there on =
    subst (λ (acts : List Activation). Keeps (old ∷ below) acts place)
    (sym (ended_same ob (with_activations w below s))) (place_without_top old below place there)
statement_keeps code old (SyncError error a) ob at below s place were there on =
    failed_keeps code old error at a below s place there on
statement_keeps code old (SysCall number given a) ob at below s place were there on =
    serves_keeps old at (system_function_served number given.inputs s.sched a) given.result below s place there on
statement_keeps code old (Stop cause) ob at below s place were there on = absurd cc
statement_keeps code old Stuck ob at below s place were there on =
    subst (λ (acts : List Activation). Keeps (old ∷ below) acts place) (sym were)
    (stays (old ∷ below) place (omega (arith, there)))

stepped_on_keeps : (code : Code) (acts : List Activation) (s : State) (place : ℕ)
    → s.activations ≡ acts → place + 1 < length acts
    → is_stop (step_of_first code acts s).mode ≡ false
    → Keeps acts (step_of_first code acts s).activations place
stepped_on_keeps code [] s place were there on = absurd (omega (arith, there))
stepped_on_keeps code (a ∷ below) s place were there on =
    statement_keeps code a (statement_step code a s.store) a.ob (spot_of_frame code a.running.frame) below s
    place were (omega (arith, there)) on

stepped_keeps : (code : Code) (s : State) (place : ℕ) → place + 1 < length s.activations
    → is_stop (after_step code s).mode ≡ false
    → Keeps s.activations (after_step code s).activations place
unfolding after_step
stepped_keeps code s place there on =
    stepped_on_keeps code s.activations s place refl there on

-- ---- requests and time

each_same : (records : List (ℕ × ℕ)) (s : State)
    → (diagnoses_recorded records s).activations ≡ s.activations
each_same [] s = refl
each_same (one ∷ rest) s = each_same rest (diagnosis_recorded one.0 one.1 s)

stopped_keeps : (code : Code) (cause : Option ℕ) (s : State) (place : ℕ)
    → place < length s.activations → is_stop (state_stopped_if code cause s).mode ≡ false
    → Keeps s.activations (state_stopped_if code cause s).activations place
unfolding stop_entered
stopped_keeps code None s place there on = stays s.activations place there
stopped_keeps code (Some cause) s place there on = absurd cc

course_keeps : (code : Code) (c : TickState) (s : State) (place : ℕ)
    → place < length s.activations → is_stop (tick_state_taken code c s).mode ≡ false
    → Keeps s.activations (tick_state_taken code c s).activations place
course_keeps code c s place there on =
    let recorded : State = diagnoses_recorded c.passed.records.items (record s { sched = c.sched }) in
    let same : recorded.activations ≡ s.activations =
    each_same c.passed.records.items (record s { sched = c.sched }) in
    subst (λ (acts : List Activation). Keeps acts (tick_state_taken code c s).activations place) same
    (stopped_keeps code c.passed.stop recorded place
    (subst (λ (acts : List Activation). place < length acts) (sym same) there) on)

arrived_keeps : (code : Code) (ob value : ℕ) (s : State) (place : ℕ)
    → place < length s.activations → is_stop (arrival_served code ob value s).mode ≡ false
    → Keeps s.activations (arrival_served code ob value s).activations place
unfolding arrival_served
arrived_keeps code ob value s place there on = by (is_stop s.mode) on
  where
    course : TickState
    course = ob_requested s.mode ob (start_info (Arrival ob value) (priority_class_in s.mode ob)) (tick_begun s.sched)

    by : (b : Bool) → is_stop (if b then s else tick_state_taken code course s).mode ≡ false
        → Keeps s.activations (if b then s else tick_state_taken code course s).activations place
    by true on = stays s.activations place there
    by false on = course_keeps code course s place there on

time_keeps : (code : Code) (ms : ℕ) (s : State) (place : ℕ)
    → place < length s.activations → is_stop (time_passed code ms s).mode ≡ false
    → Keeps s.activations (time_passed code ms s).activations place
unfolding time_passed
time_keeps code ms s place there on =
    course_keeps code course (record s { store = timers_moved course.passed.ms s.store }) place there on
  where
    course : TickState
    course = after_tick s.mode (active_obs s.activations) ms s.sched

-- ---- requests of operators

-- a request stops, or leaves the activations as they are: a restart outside STOP does nothing
asked_keeps : (code : Code) (r : Request) (s : State) (place : ℕ) → is_stop s.mode ≡ false
    → place < length s.activations → is_stop (request_effect code r s).mode ≡ false
    → Keeps s.activations (request_effect code r s).activations place
unfolding request_effect stop_entered
asked_keeps code request.Stop s place runs there on = by (is_stop s.mode) on
  where
    by : (b : Bool) → is_stop (if b then s else stop_entered code causes.by_operator s).mode ≡ false
        → Keeps s.activations (if b then s else stop_entered code causes.by_operator s).activations place
    by true on = stays s.activations place there
    by false on = absurd cc
asked_keeps code request.Restart s place runs there on = by (is_stop s.mode) runs
  where
    by : (b : Bool) → b ≡ false
        → Keeps s.activations (if b then state_after_warm_restart code s else s).activations place
    by true runs = absurd cc
    by false runs = stays s.activations place there
asked_keeps code (request.MonitorOn block) s place runs there on = by (is_some (code.head block))
  where
    by : (b : Bool)
        → Keeps s.activations (if b then record s { monitored = Some block } else s).activations place
    by true = stays s.activations place there
    by false = stays s.activations place there
asked_keeps code request.MonitorOff s place runs there on = stays s.activations place there
asked_keeps code (request.WriteVar var value) s place runs there on =
    stays s.activations place there
asked_keeps code (request.ReadVars vars) s place runs there on = stays s.activations place there
asked_keeps code request.Diag s place runs there on = stays s.activations place there

-- ---- entries

effect_keeps : (code : Code) (w : What) (s : State) (place : ℕ) → is_stop s.mode ≡ false
    → place + 1 < length s.activations → is_stop (entry_effect code w s).mode ≡ false
    → Keeps s.activations (entry_effect code w s).activations place
effect_keeps code entry.Step s place runs there on = by (is_stop s.mode) on
  where
    by : (b : Bool) → is_stop (if b then s else after_step code s).mode ≡ false
        → Keeps s.activations (if b then s else after_step code s).activations place
    by true on = stays s.activations place (omega (arith, there))
    by false on = stepped_keeps code s place there on
effect_keeps code (entry.Input byte value) s place runs there on =
    stays s.activations place (omega (arith, there))
effect_keeps code (entry.Arrive ob value) s place runs there on =
    arrived_keeps code ob value s place (omega (arith, there)) on
effect_keeps code (entry.Tick ms) s place runs there on =
    time_keeps code ms s place (omega (arith, there)) on
effect_keeps code (entry.Ask r) s place runs there on =
    asked_keeps code r s place runs (omega (arith, there)) on

state_keeps : (code : Code) (w : What) (s : State) (place : ℕ) → is_stop s.mode ≡ false
    → place + 1 < length s.activations → is_stop (state_after code w s).mode ≡ false
    → activation_at_place (state_after code w s).activations place ≡ activation_at_place s.activations place
unfolding state_after
state_keeps code w s place runs there on =
    let next : State = entry_effect code w (entry_counted s) in
    let goes_on : is_stop next.mode ≡ false = sym (ap is_stop (settled_mode code next)) ∙ on in
    let kept : Keeps s.activations next.activations place =
    effect_keeps code w (entry_counted s) place runs there goes_on in
    (settled_keeps code next place kept.there).same ∙ kept.same

-- ---- histories

-- a replay of one more entry
replay_more : ContinuesReplay → (profile : Profile) (code : Code) (history : List What) (w : What)
    → replay profile code (history ++ w ∷ []) ≡ state_after code w (replay profile code history)
unfolding entry_result
replay_more continues profile code history w = continues profile code history w

-- the state after one more of the entries
after_one : ContinuesReplay → (profile : Profile) (code : Code) (history : List What) (k : ℕ) → k < length history
    → state_after_first profile code history (k + 1)
    ≡ state_after code (get_or history k entry.Step) (state_after_first profile code history k)
after_one continues profile code history k inside =
    ap (replay profile code) (take_more history k entry.Step inside)
    ∙ replay_more continues profile code (take k history) (get_or history k entry.Step)

same_next : ContinuesReplay → (profile : Profile) (code : Code) (history : List What) (place k : ℕ)
    → k < length history → is_stop (state_after_first profile code history k).mode ≡ false
    → place + 1 < length (state_after_first profile code history k).activations
    → is_stop (state_after_first profile code history (k + 1)).mode ≡ false
    → activation_at_place (state_after_first profile code history (k + 1)).activations place
    ≡ activation_at_place (state_after_first profile code history k).activations place
same_next continues profile code history place k inside runs suspended goes_on =
    let w : What = get_or history k entry.Step in
    let next : state_after_first profile code history (k + 1) ≡ state_after code w (state_after_first profile code history k)
    = after_one continues profile code history k inside in
    let on : is_stop (state_after code w (state_after_first profile code history k)).mode ≡ false
    = sym (ap (λ (s : State). is_stop s.mode) next) ∙ goes_on in
    ap (λ (s : State). activation_at_place s.activations place) next
    ∙ state_keeps code w (state_after_first profile code history k) place runs suspended on

same_after : ContinuesReplay → (profile : Profile) (code : Code) (history : List What) (place first last : ℕ)
    → IsSuspended profile code history place first last → (j : ℕ) → first + j ≤ last
    → activation_at_place (state_after_first profile code history (first + j)).activations place
    ≡ activation_at_place (state_after_first profile code history first).activations place
same_after continues profile code history place first last is zero within =
    let e : first + zero ≡ first = omega arith in
    ap (λ (k : ℕ). activation_at_place (state_after_first profile code history k).activations place) e
same_after continues profile code history place first last is (suc j) within =
    let e : first + suc j ≡ first + j + 1 = omega arith in
    let final : last ≤ length history = is.within in
    ap (λ (k : ℕ). activation_at_place (state_after_first profile code history k).activations place) e
    ∙ same_next continues profile code history place (first + j) (omega arith)
    (is.goes_on (first + j) (omega arith) (omega arith))
    (is.suspended (first + j) (omega arith) (omega arith))
    (is.goes_on (first + j + 1) (omega arith) (omega arith))
    ∙ same_after continues profile code history place first last is j (omega arith)

-- the law of resumption, over any program
resumes : ContinuesReplay → (profile : Profile) (code : Code) (history : List What) (place first last : ℕ)
    → IsSuspended profile code history place first last → Resumes profile code history place first last
resumes continues profile code history place first last is k from to =
    let e : first + (k - first) ≡ k = omega arith in
    ap (λ (n : ℕ). activation_at_place (state_after_first profile code history n).activations place) (sym e)
    ∙ same_after continues profile code history place first last is (k - first) (omega arith)

pub sources_resume : ContinuesReplay → SourcesResume
sources_resume continues language source symbols profile code history place first last means is =
    resumes continues profile code history place first last is

pub images_resume : ContinuesReplay → ImagesResume
images_resume continues profile l history place first last is =
    resumes continues profile (code_of l.program) history place first last is
