-- Entries do the same at other positions.
use Rattle.std.proofs.Common.{◌≡◌, ℕ, ◌+◌, Bool, true, false, if◌then◌else◌, ◌==◌, ◌&&◌, not, nat_le, ◌-◌, List, [], ◌∷◌, ◌++◌, map, reverse, filter, Option, Some, None, is_some, option_map, unwrap_or, refl, sym, ap, ◌∙◌}
use Rattle.std.proofs.lemmas.List.{reverse-append}
use Rattle.plc_base.specs.StopCauses as causes
use Rattle.plc_base.specs.declared.Profile.{Profile}
use Rattle.plc_base.specs.declared.BlockId.{BlockId}
use Rattle.plc_base.specs.declared.Spot.{Spot}
use Rattle.status_word.specs.declared.Regs.{Regs}
use Rattle.frames.specs.Activations.{activation_begun, with_local_byte}
use Rattle.frames.specs.Locals.{LocalData, local_byte_set}
use Rattle.frames.specs.declared.Activation.{Activation}
use Rattle.frames.specs.declared.bindings.Binding.{Binding}
use Rattle.frames.specs.declared.frame.Frame.{Frame}
use Rattle.machine.specs.Code.{Code, Fetched, BlockHead}
use Rattle.machine.specs.MovedCode.{FollowsCode, moved_activation, moved_fetched, moved_frame, moved_step, StatementsMove}
use Rattle.machine.specs.Statement.{StatementStep, Went, Ended, SyncError, SysCall, Stop, Stuck, statement_step}
use Rattle.machine.specs.SystemCalls.{SystemCallArguments}
use Rattle.monitor.specs.declared.MonRecord.{MonRecord}
use Rattle.ob_sched.specs.TickState.{TickState, ob_requested}
use Rattle.ob_sched.specs.Scheduler.{Scheduler, cycle_retriggered, delay_of, delay_started, delay_cancelled}
use Rattle.ob_sched.specs.StartInformation.{ob_of_error, start_info}
use Rattle.ob_sched.specs.Millisecond.{after_tick, tick_begun}
use Rattle.ob_sched.specs.OrganizationBlock.{priority_class_in, is_delay}
use Rattle.ob_sched.specs.StartRequest.{best_of}
use Rattle.ob_sched.specs.declared.requests.Pending.{Pending}
use Rattle.ob_sched.specs.declared.start_infos.StartEvent.TheVariants.{Arrival}
use Rattle.ob_sched.specs.declared.start_infos.StartInfo.{StartInfo}
use Rattle.sys_funcs.specs.Disabling.{selection_error_code}
use Rattle.sys_funcs.specs.Functions.{dis_airt, en_airt, dis_irt, en_irt, srt_dint, can_dint, time_tck, interrupts_disabled_or_error, with_delay}
use Rattle.sys_funcs.specs.Results.{SystemFunctionResult, int_result, with_br_set}
use Rattle.var_access.specs.declared.Reply.{Reply}
use Rattle.var_access.specs.declared.Request.{Request}
use Rattle.var_access.specs.declared.Request.TheVariants as ask
use Rattle.var_access.specs.declared.What.{What}
use Rattle.var_access.specs.declared.What.TheVariants as what
use Rattle.controller.specs.Asking.{request_reply, request_effect, done_or_no_such}
use Rattle.machine.specs.Lasting.{ob_block}
use Rattle.controller.specs.Beginning.{ob_frame, with_start_bytes, ob_begun, ob_activation, with_ob_begun}
use Rattle.controller.specs.CyclePoint.{cycle_point, cycle_info, cycle_finished}
use Rattle.controller.specs.Errors.{with_caller_registers, error_in, error_ob_started, error_raised, error_event, is_synchronous}
use Rattle.controller.specs.Event.{entry_counted, entry_effect, state_after}
use Rattle.controller.specs.Monitoring.{is_monitored, monitoring_record, mon_record_at, regs_after, regs_served, step_record}
use Rattle.controller.specs.MovedCode.{moved_state, EntriesMove, HistoriesMove}
use Rattle.controller.specs.Replay.{EntryResult, entry_result_between, entry_result, replay, reply_to, state_after_entries}
use Rattle.controller.specs.Requests.{state_stopped_if, tick_state_taken, arrival_served}
use Rattle.controller.specs.Serving.{ServiceResult, Returns, Passes, Stops, system_function_served, after_service, system_call_served, in_parameter}
use Rattle.controller.specs.Settling.{may_start, request_taken, request_started, best_started, after_settling}
use Rattle.controller.specs.ShownEntry.{observed_changes, entry_shown}
use Rattle.controller.specs.Start.{all_obs, before_start, restart_cleared, state_after_warm_restart, initial_state, state_in_startup, startup_info, startup_ob}
use Rattle.controller.specs.State.{State, is_stop, diagnosis_recorded, diagnoses_recorded}
use Rattle.controller.specs.Stepping.{run_starts, ob_ended, after_statement, step_of_first, after_step}
use Rattle.controller.specs.Stopping.{spot_of_frame, running_spot, stop_entered_at, stop_entered}
use Rattle.controller.specs.Ticking.{active_obs, time_passed, tick_taken, timers_moved}

abbrev Positions : Type 0
Positions = BlockId → ℕ → ℕ

-- ---- organization blocks begin

byte_moves :
    (f : Positions) (o : Option LocalData) (a : Activation)
    → unwrap_or (option_map (λ (l : LocalData). record (moved_activation f a) { running = record (moved_activation f a).running { locals = l } }) o) (moved_activation f a)
    ≡ moved_activation f (unwrap_or (option_map (λ (l : LocalData). record a { running = record a.running { locals = l } }) o) a)
byte_moves f None a = refl
byte_moves f (Some l) a = refl

with_start_bytes_moves :
    (f : Positions) (byte : ℕ) (values : List ℕ) (a : Activation)
    → with_start_bytes byte values (moved_activation f a) ≡ moved_activation f (with_start_bytes byte values a)
with_start_bytes_moves f byte [] a = refl
with_start_bytes_moves f byte (value ∷ rest) a =
    ap (with_start_bytes (byte + 1) rest) (byte_moves f (local_byte_set a.running.locals 0 byte value) a)
    ∙ with_start_bytes_moves f (byte + 1) rest (unwrap_or (with_local_byte 0 byte value a) a)

begun_moves :
    (profile : Profile) (f : Positions) (class ob : ℕ) (head : BlockHead) → f (ob_block ob) 0 ≡ 0
    → activation_begun profile class ob (ob_frame ob head) ≡ moved_activation f (activation_begun profile class ob (ob_frame ob head))
begun_moves profile f class ob head start =
    ap (λ (at : ℕ). activation_begun profile class ob (record (ob_frame ob head) { at = at })) (sym start)

ob_moves :
    (profile : Profile) (f : Positions) (class ob : ℕ) (info : StartInfo) (head : BlockHead) → f (ob_block ob) 0 ≡ 0
    → ob_begun profile class ob info head ≡ moved_activation f (ob_begun profile class ob info head)
unfolding ob_begun
ob_moves profile f class ob info head start =
    ap (with_start_bytes 0 info.bytes) (begun_moves profile f class ob head start)
    ∙ with_start_bytes_moves f 0 info.bytes (activation_begun profile class ob (ob_frame ob head))

head_moves :
    (profile : Profile) (f : Positions) (class ob : ℕ) (info : StartInfo) (o : Option BlockHead) → f (ob_block ob) 0 ≡ 0
    → option_map (ob_begun profile class ob info) o ≡ option_map (moved_activation f) (option_map (ob_begun profile class ob info) o)
head_moves profile f class ob info None start = refl
head_moves profile f class ob info (Some head) start = ap (λ (a : Activation). Some a) (ob_moves profile f class ob info head start)

ob_in_moves :
    (profile : Profile) (f : Positions) (c d : Code) (class ob : ℕ) (info : StartInfo) → FollowsCode f c d
    → ob_activation profile d class ob info ≡ option_map (moved_activation f) (ob_activation profile c class ob info)
ob_in_moves profile f c d class ob info follows =
    ap (option_map (ob_begun profile class ob info)) (follows.head (ob_block ob))
    ∙ head_moves profile f class ob info (c.head (ob_block ob)) (follows.start (ob_block ob))

above_moves :
    (f : Positions) (o : Option Activation) (s : State)
    → with_ob_begun (option_map (moved_activation f) o) (moved_state f s) ≡ moved_state f (with_ob_begun o s)
above_moves f None s = refl
above_moves f (Some a) s = refl

-- ---- spots, records, stops

abbrev line_in : BlockId → Fetched → Spot
line_in block i = record { block = block; line = i.line }

fetched_spot :
    (g : ℕ → ℕ) (block : BlockId) (o : Option Fetched)
    → option_map (line_in block) (option_map (moved_fetched g) o) ≡ option_map (line_in block) o
fetched_spot g block None = refl
fetched_spot g block (Some i) = refl

spot_moves : (f : Positions) (c d : Code) (frame : Frame) → FollowsCode f c d → spot_of_frame d (moved_frame f frame) ≡ spot_of_frame c frame
spot_moves f c d frame follows =
    ap (option_map (line_in frame.block)) (follows.fetch frame.block frame.at)
    ∙ fetched_spot (f frame.block) frame.block (c.fetch frame.block frame.at)

spots_move : (f : Positions) (c d : Code) (activations : List Activation) → FollowsCode f c d → running_spot d (map (moved_activation f) activations) ≡ running_spot c activations
spots_move f c d [] follows = refl
spots_move f c d (a ∷ below) follows = spot_moves f c d a.running.frame follows

diagnosed_moves : (f : Positions) (records : List (ℕ × ℕ)) (s : State) → diagnoses_recorded records (moved_state f s) ≡ moved_state f (diagnoses_recorded records s)
diagnosed_moves f [] s = refl
diagnosed_moves f (one ∷ rest) s = diagnosed_moves f rest (diagnosis_recorded one.0 one.1 s)

halted_moves :
    (f : Positions) (c d : Code) (cause : ℕ) (s : State) → FollowsCode f c d
    → stop_entered d cause (moved_state f s) ≡ moved_state f (stop_entered c cause s)
unfolding stop_entered
halted_moves f c d cause s follows =
    ap (λ (at : Option Spot). stop_entered_at at cause (moved_state f s)) (spots_move f c d s.activations follows)

stopped_moves :
    (f : Positions) (c d : Code) (cause : Option ℕ) (s : State) → FollowsCode f c d
    → state_stopped_if d cause (moved_state f s) ≡ moved_state f (state_stopped_if c cause s)
stopped_moves f c d None s follows = refl
stopped_moves f c d (Some cause) s follows = halted_moves f c d cause s follows

tick_state_moves :
    (f : Positions) (c d : Code) (tick : TickState) (s : State) → FollowsCode f c d
    → tick_state_taken d tick (moved_state f s) ≡ moved_state f (tick_state_taken c tick s)
tick_state_moves f c d tick s follows =
    ap (state_stopped_if d tick.passed.stop) (diagnosed_moves f tick.passed.records.items (record s { sched = tick.sched }))
    ∙ stopped_moves f c d tick.passed.stop (diagnoses_recorded tick.passed.records.items (record s { sched = tick.sched })) follows

-- ---- system functions

abbrev moved_served : Positions → ServiceResult → ServiceResult
moved_served f (Returns r) = Returns (record r { activation = moved_activation f r.activation })
moved_served f (Passes sched a) = Passes sched (moved_activation f a)
moved_served f (Stops cause a) = Stops cause (moved_activation f a)

abbrev moved_returned : Positions → SystemFunctionResult → SystemFunctionResult
moved_returned f r = record r { activation = moved_activation f r.activation }

either :
    {A : Type 0} (g : A → A) (b : Bool) (x x' y y' : A) → x' ≡ g x → y' ≡ g y
    → (if b then x' else y') ≡ g (if b then x else y)
either g true x x' y y' h k = h
either g false x x' y y' h k = k

srt_moves : (f : Positions) (s : Scheduler) (a : Activation) (n t g : ℕ) → srt_dint s (moved_activation f a) n t g ≡ moved_returned f (srt_dint s a n t g)
unfolding srt_dint
srt_moves f s a n t g = by (not (is_delay n)) (not (nat_le 1 t && nat_le t 60000))
  where
    by : (other late : Bool)
        → (if other then int_result s (moved_activation f a) 0x8090 else if late then int_result s (moved_activation f a) 0x8091 else int_result (delay_started n t s) (moved_activation f a) 0)
        ≡ moved_returned f (if other then int_result s a 0x8090 else if late then int_result s a 0x8091 else int_result (delay_started n t s) a 0)
    by true late = refl
    by false true = refl
    by false false = refl

can_moves : (f : Positions) (s : Scheduler) (a : Activation) (n : ℕ) → can_dint s (moved_activation f a) n ≡ moved_returned f (can_dint s a n)
unfolding can_dint
can_moves f s a n = by (not (is_delay n)) (is_some (delay_of s.countdowns n))
  where
    by : (other started : Bool)
        → (if other then int_result s (moved_activation f a) 0x8090 else if started then int_result (delay_cancelled n s) (moved_activation f a) 0 else int_result s (moved_activation f a) 0x80A0)
        ≡ moved_returned f (if other then int_result s a 0x8090 else if started then int_result (delay_cancelled n s) a 0 else int_result s a 0x80A0)
    by true started = refl
    by false true = refl
    by false false = refl

set_moves :
    (f : Positions) (refused : Option ℕ) (disabled : Bool) (mode n : ℕ) (s : Scheduler) (a : Activation)
    → interrupts_disabled_or_error refused disabled mode n s (moved_activation f a) ≡ moved_returned f (interrupts_disabled_or_error refused disabled mode n s a)
set_moves f (Some code) disabled mode n s a = refl
set_moves f None disabled mode n s a = refl

dis_moves : (f : Positions) (s : Scheduler) (a : Activation) (mode n : ℕ) → dis_irt s (moved_activation f a) mode n ≡ moved_returned f (dis_irt s a mode n)
unfolding dis_irt
dis_moves f s a mode n = set_moves f (selection_error_code mode n) true mode n s a

en_moves : (f : Positions) (s : Scheduler) (a : Activation) (mode n : ℕ) → en_irt s (moved_activation f a) mode n ≡ moved_returned f (en_irt s a mode n)
unfolding en_irt
en_moves f s a mode n = set_moves f (selection_error_code mode n) false mode n s a

delays_move : (f : Positions) (s : Scheduler) (a : Activation) → dis_airt s (moved_activation f a) ≡ moved_returned f (dis_airt s a)
unfolding dis_airt
delays_move f s a = refl

delays_end : (f : Positions) (s : Scheduler) (a : Activation) → en_airt s (moved_activation f a) ≡ moved_returned f (en_airt s a)
unfolding en_airt
delays_end f s a = by (a.delay == 0)
  where
    by : (none : Bool)
        → (if none then int_result s (moved_activation f a) 0x8080 else int_result s (with_delay (a.delay - 1) (moved_activation f a)) (a.delay - 1))
        ≡ moved_returned f (if none then int_result s a 0x8080 else int_result s (with_delay (a.delay - 1) a) (a.delay - 1))
    by true = refl
    by false = refl

time_moves : (f : Positions) (s : Scheduler) (a : Activation) → time_tck s (moved_activation f a) ≡ moved_returned f (time_tck s a)
unfolding time_tck
time_moves f s a = refl

returns_move : (f : Positions) (r r' : SystemFunctionResult) → r' ≡ moved_returned f r → Returns r' ≡ moved_served f (Returns r)
returns_move f r r' h = ap (λ (z : SystemFunctionResult). Returns z) h

abbrev function_chosen : (b32 b33 b39 b40 b41 b42 b43 b46 : Bool) → (inputs : List ℕ) → Scheduler → Activation → ServiceResult
function_chosen b32 b33 b39 b40 b41 b42 b43 b46 inputs s a =
    if b32 then Returns (srt_dint s a (in_parameter 0 inputs) (in_parameter 1 inputs) (in_parameter 2 inputs))
    else if b33 then Returns (can_dint s a (in_parameter 0 inputs))
    else if b39 then Returns (dis_irt s a (in_parameter 0 inputs) (in_parameter 1 inputs))
    else if b40 then Returns (en_irt s a (in_parameter 0 inputs) (in_parameter 1 inputs))
    else if b41 then Returns (dis_airt s a)
    else if b42 then Returns (en_airt s a)
    else if b43 then Passes (cycle_retriggered s) (with_br_set a)
    else if b46 then Stops causes.by_program (with_br_set a)
    else Returns (time_tck s a)

chosen_moves :
    (f : Positions) (b32 b33 b39 b40 b41 b42 b43 b46 : Bool) (inputs : List ℕ) (s : Scheduler) (a : Activation)
    → function_chosen b32 b33 b39 b40 b41 b42 b43 b46 inputs s (moved_activation f a) ≡ moved_served f (function_chosen b32 b33 b39 b40 b41 b42 b43 b46 inputs s a)
chosen_moves f true b33 b39 b40 b41 b42 b43 b46 inputs s a = returns_move f _ _ (srt_moves f s a (in_parameter 0 inputs) (in_parameter 1 inputs) (in_parameter 2 inputs))
chosen_moves f false true b39 b40 b41 b42 b43 b46 inputs s a = returns_move f _ _ (can_moves f s a (in_parameter 0 inputs))
chosen_moves f false false true b40 b41 b42 b43 b46 inputs s a = returns_move f _ _ (dis_moves f s a (in_parameter 0 inputs) (in_parameter 1 inputs))
chosen_moves f false false false true b41 b42 b43 b46 inputs s a = returns_move f _ _ (en_moves f s a (in_parameter 0 inputs) (in_parameter 1 inputs))
chosen_moves f false false false false true b42 b43 b46 inputs s a = returns_move f _ _ (delays_move f s a)
chosen_moves f false false false false false true b43 b46 inputs s a = returns_move f _ _ (delays_end f s a)
chosen_moves f false false false false false false true b46 inputs s a = refl
chosen_moves f false false false false false false false true inputs s a = refl
chosen_moves f false false false false false false false false inputs s a = returns_move f _ _ (time_moves f s a)

served_moves :
    (f : Positions) (number : ℕ) (inputs : List ℕ) (s : Scheduler) (a : Activation)
    → system_function_served number inputs s (moved_activation f a) ≡ moved_served f (system_function_served number inputs s a)
unfolding system_function_served
served_moves f number inputs s a =
    chosen_moves f (number == 32) (number == 33) (number == 39) (number == 40) (number == 41) (number == 42) (number == 43) (number == 46) inputs s a

service_moves :
    (f : Positions) (call : Option Spot) (r : ServiceResult) (to : Option Binding) (below : List Activation) (s : State)
    → after_service call (moved_served f r) to (map (moved_activation f) below) (moved_state f s) ≡ moved_state f (after_service call r to below s)
service_moves f call (Returns r) None below s = refl
service_moves f call (Returns r) (Some to) below s = refl
service_moves f call (Passes sched a) to below s = refl
service_moves f call (Stops cause a) to below s = refl

system_moves :
    (f : Positions) (call : Option Spot) (number : ℕ) (given : SystemCallArguments) (a : Activation) (below : List Activation) (s : State)
    → system_call_served call number given (moved_activation f a) (map (moved_activation f) below) (moved_state f s) ≡ moved_state f (system_call_served call number given a below s)
system_moves f call number given a below s =
    ap (λ (r : ServiceResult). after_service call r given.result (map (moved_activation f) below) (moved_state f s)) (served_moves f number given.inputs s.sched a)
    ∙ service_moves f call (system_function_served number given.inputs s.sched a) given.result below s

-- ---- synchronous errors

copied_moves :
    (f : Positions) (a : Activation) (o : Option Activation)
    → option_map (with_caller_registers (moved_activation f a)) (option_map (moved_activation f) o) ≡ option_map (moved_activation f) (option_map (with_caller_registers a) o)
copied_moves f a None = refl
copied_moves f a (Some fresh) = refl

error_moves :
    (f : Positions) (c d : Code) (error : ℕ) (at : Option Spot) (a : Activation) → FollowsCode f c d
    → error_in d error at (moved_activation f a) ≡ option_map (moved_activation f) (error_in c error at a)
error_moves f c d error at a follows =
    ap (option_map (with_caller_registers (moved_activation f a))) (ob_in_moves a.profile f c d a.class (ob_of_error error) (start_info (error_event error at) a.class) follows)
    ∙ copied_moves f a (ob_activation a.profile c a.class (ob_of_error error) (start_info (error_event error at) a.class))

answered_moves :
    (f : Positions) (o : Option Activation) (error : ℕ) (at : Option Spot) (a : Activation) (below : List Activation) (s : State)
    → error_ob_started (option_map (moved_activation f) o) error at (moved_activation f a) (map (moved_activation f) below) (moved_state f s) ≡ moved_state f (error_ob_started o error at a below s)
answered_moves f None error at a below s = refl
answered_moves f (Some fresh) error at a below s = refl

failed_moves :
    (f : Positions) (c d : Code) (error : ℕ) (at : Option Spot) (a : Activation) (below : List Activation) (s : State) → FollowsCode f c d
    → error_raised d error at (moved_activation f a) (map (moved_activation f) below) (moved_state f s) ≡ moved_state f (error_raised c error at a below s)
unfolding error_raised
failed_moves f c d error at a below s follows =
    either (moved_state f) (is_synchronous a.ob) (stop_entered_at at causes.in_error_ob (diagnosis_recorded 4 error s)) _
    (error_ob_started (error_in c error at a) error at a below (diagnosis_recorded 4 error s)) _ refl
    (ap (λ (o : Option Activation). error_ob_started o error at (moved_activation f a) (map (moved_activation f) below) (moved_state f (diagnosis_recorded 4 error s)))
    (error_moves f c d error at a follows)
    ∙ answered_moves f (error_in c error at a) error at a below (diagnosis_recorded 4 error s))

-- ---- steps

ended_moves : (f : Positions) (ob : ℕ) (s : State) → ob_ended ob (moved_state f s) ≡ moved_state f (ob_ended ob s)
ended_moves f ob s = either (moved_state f) (ob == 100) (run_starts s) _ s _ refl refl

after_moves :
    (f : Positions) (c d : Code) (step : StatementStep) (ob : ℕ) (at : Option Spot) (below : List Activation) (s : State) → FollowsCode f c d
    → after_statement d (moved_step f step) ob at (map (moved_activation f) below) (moved_state f s) ≡ moved_state f (after_statement c step ob at below s)
after_moves f c d (Went a w) ob at below s follows = refl
after_moves f c d (Ended regs w) ob at below s follows = ended_moves f ob (record s { store = w; activations = below })
after_moves f c d (SyncError error a) ob at below s follows = failed_moves f c d error at a below s follows
after_moves f c d (SysCall number given a) ob at below s follows = system_moves f at number given a below s
after_moves f c d (Stop cause) ob at below s follows = refl
after_moves f c d Stuck ob at below s follows = refl

cycle_moves :
    (f : Positions) (c d : Code) (s : State) → FollowsCode f c d → cycle_point d (moved_state f s) ≡ moved_state f (cycle_point c s)
unfolding cycle_point
cycle_moves f c d s follows =
    ap (λ (o : Option Activation). with_ob_begun o (moved_state f (cycle_finished s))) (ob_in_moves s.profile f c d _ 1 (cycle_info s) follows)
    ∙ above_moves f (ob_activation s.profile c _ 1 (cycle_info s)) (cycle_finished s)

stepped_on_moves :
    (f : Positions) (c d : Code) (activations : List Activation) (s : State) → StatementsMove → FollowsCode f c d
    → step_of_first d (map (moved_activation f) activations) (moved_state f s) ≡ moved_state f (step_of_first c activations s)
stepped_on_moves f c d [] s statements follows = cycle_moves f c d s follows
stepped_on_moves f c d (a ∷ below) s statements follows =
    ap (λ (step : StatementStep). after_statement d step a.ob (spot_of_frame d (moved_frame f a.running.frame)) (map (moved_activation f) below) (moved_state f s))
    (statements f c d a s.store follows)
    ∙ ap (λ (at : Option Spot). after_statement d (moved_step f (statement_step c a s.store)) a.ob at (map (moved_activation f) below) (moved_state f s))
    (spot_moves f c d a.running.frame follows)
    ∙ after_moves f c d (statement_step c a s.store) a.ob (spot_of_frame c a.running.frame) below s follows

stepped_moves :
    (f : Positions) (c d : Code) (s : State) → StatementsMove → FollowsCode f c d → after_step d (moved_state f s) ≡ moved_state f (after_step c s)
unfolding after_step
stepped_moves f c d s statements follows = stepped_on_moves f c d s.activations s statements follows

-- ---- arrivals, time, settling

arrived_moves :
    (f : Positions) (c d : Code) (ob value : ℕ) (s : State) → FollowsCode f c d → arrival_served d ob value (moved_state f s) ≡ moved_state f (arrival_served c ob value s)
unfolding arrival_served
arrived_moves f c d ob value s follows = either (moved_state f) (is_stop s.mode) s _ (tick_state_taken c (arrival_of s ob value) s) _ refl (tick_state_moves f c d (arrival_of s ob value) s follows)
  where
    arrival_of : State → (ob value : ℕ) → TickState
    arrival_of s ob value = ob_requested s.mode ob (start_info (Arrival ob value) (priority_class_in s.mode ob)) (tick_begun s.sched)

active_same : (f : Positions) (activations : List Activation) → active_obs (map (moved_activation f) activations) ≡ active_obs activations
active_same f activations =
    ap (map (λ (a : Activation). a.ob)) (reversed activations) ∙ obs (reverse activations)
  where
    over : (xs ys : List Activation) → map (moved_activation f) (xs ++ ys) ≡ map (moved_activation f) xs ++ map (moved_activation f) ys
    over [] ys = refl
    over (x ∷ xs) ys = ap (λ (z : List Activation). moved_activation f x ∷ z) (over xs ys)

    reversed : (xs : List Activation) → reverse (map (moved_activation f) xs) ≡ map (moved_activation f) (reverse xs)
    reversed [] = refl
    reversed (x ∷ xs) = reverse-append (moved_activation f x ∷ []) (map (moved_activation f) xs)
        ∙ ap (λ (z : List Activation). z ++ moved_activation f x ∷ []) (reversed xs)
        ∙ sym (over (reverse xs) (x ∷ [])) ∙ ap (map (moved_activation f)) (sym (reverse-append (x ∷ []) xs))

    obs : (xs : List Activation) → map (λ (a : Activation). a.ob) (map (moved_activation f) xs) ≡ map (λ (a : Activation). a.ob) xs
    obs [] = refl
    obs (x ∷ xs) = ap (λ (z : List ℕ). x.ob ∷ z) (obs xs)

time_passes_moves :
    (f : Positions) (c d : Code) (ms : ℕ) (s : State) → FollowsCode f c d → time_passed d ms (moved_state f s) ≡ moved_state f (time_passed c ms s)
unfolding time_passed
time_passes_moves f c d ms s follows =
    ap (λ (obs : List ℕ). tick_taken d (after_tick s.mode obs ms s.sched) (moved_state f s)) (active_same f s.activations)
    ∙ tick_state_moves f c d (after_tick s.mode (active_obs s.activations) ms s.sched)
    (record s { store = timers_moved (after_tick s.mode (active_obs s.activations) ms s.sched).passed.ms s.store }) follows

may_start_same : (f : Positions) (class : ℕ) (activations : List Activation) → may_start class (map (moved_activation f) activations) ≡ may_start class activations
may_start_same f class [] = refl
may_start_same f class (a ∷ below) = refl

best_moves :
    (f : Positions) (c d : Code) (best : Option Pending) (s : State) → FollowsCode f c d
    → best_started d best (moved_state f s) ≡ moved_state f (best_started c best s)
best_moves f c d None s follows = refl
best_moves f c d (Some best) s follows =
    ap (λ (b : Bool). if b then request_started d best (moved_state f s) else moved_state f s) (may_start_same f best.class s.activations)
    ∙ either (moved_state f) (may_start best.class s.activations) (request_started c best s) _ s _
    (ap (λ (o : Option Activation). with_ob_begun o (moved_state f (request_taken s))) (ob_in_moves s.profile f c d best.class best.ob best.info follows)
    ∙ above_moves f (ob_activation s.profile c best.class best.ob best.info) (request_taken s)) refl

settled_moves :
    (f : Positions) (c d : Code) (s : State) → FollowsCode f c d → after_settling d (moved_state f s) ≡ moved_state f (after_settling c s)
unfolding after_settling
settled_moves f c d s follows =
    either (moved_state f) (is_stop s.mode) s _ (best_started c (best_of s.mode s.sched.pending) s) _ refl (best_moves f c d (best_of s.mode s.sched.pending) s follows)

-- ---- requests of operators

started_moves : (f : Positions) (o : Option Activation) (s : State) → state_in_startup (option_map (moved_activation f) o) (moved_state f s) ≡ moved_state f (state_in_startup o s)
started_moves f None s = refl
started_moves f (Some a) s = refl

restarted_moves :
    (f : Positions) (c d : Code) (s : State) → FollowsCode f c d → state_after_warm_restart d (moved_state f s) ≡ moved_state f (state_after_warm_restart c s)
unfolding state_after_warm_restart
restarted_moves f c d s follows =
    ap (λ (o : Option Activation). state_in_startup o (moved_state f (restart_cleared (diagnosis_recorded 6 0 s)))) (ob_in_moves s.profile f c d 27 100 startup_info follows)
    ∙ started_moves f (startup_ob s.profile c) (restart_cleared (diagnosis_recorded 6 0 s))

asked_moves :
    (f : Positions) (c d : Code) (request : Request) (s : State) → FollowsCode f c d
    → request_effect d request (moved_state f s) ≡ moved_state f (request_effect c request s)
unfolding request_effect
asked_moves f c d (ask.ReadVars vars) s follows = refl
asked_moves f c d (ask.WriteVar var value) s follows = refl
asked_moves f c d ask.Stop s follows =
    either (moved_state f) (is_stop s.mode) s _ (stop_entered c causes.by_operator s) _ refl (halted_moves f c d causes.by_operator s follows)
asked_moves f c d ask.Restart s follows =
    either (moved_state f) (is_stop s.mode) (state_after_warm_restart c s) _ s _ (restarted_moves f c d s follows) refl
asked_moves f c d (ask.MonitorOn block) s follows =
    ap (λ (o : Option BlockHead). if is_some o then moved_state f (record s { monitored = Some block }) else moved_state f s) (follows.head block)
    ∙ either (moved_state f) (is_some (c.head block)) (record s { monitored = Some block }) _ s _ refl refl
asked_moves f c d ask.MonitorOff s follows = refl
asked_moves f c d ask.Diag s follows = refl

answer_moves :
    (f : Positions) (c d : Code) (request : Request) (s : State) → FollowsCode f c d
    → request_reply d request (moved_state f s) ≡ request_reply c request s
unfolding request_reply
answer_moves f c d (ask.ReadVars vars) s follows = refl
answer_moves f c d (ask.WriteVar var value) s follows = refl
answer_moves f c d ask.Stop s follows = refl
answer_moves f c d ask.Restart s follows = refl
answer_moves f c d (ask.MonitorOn block) s follows = ap (λ (o : Option BlockHead). done_or_no_such (is_some o)) (follows.head block)
answer_moves f c d ask.MonitorOff s follows = refl
answer_moves f c d ask.Diag s follows = refl

reply_moves :
    (f : Positions) (c d : Code) (entry : What) (s : State) → FollowsCode f c d
    → reply_to d (moved_state f s) entry ≡ reply_to c s entry
reply_moves f c d what.Step s follows = refl
reply_moves f c d (what.Input byte value) s follows = refl
reply_moves f c d (what.Arrive ob value) s follows = refl
reply_moves f c d (what.Tick ms) s follows = refl
reply_moves f c d (what.Ask request) s follows = answer_moves f c d request s follows

-- ---- monitoring

served_regs : (f : Positions) (r : ServiceResult) → regs_served (moved_served f r) ≡ regs_served r
served_regs f (Returns r) = refl
served_regs f (Passes sched a) = refl
served_regs f (Stops cause a) = refl

regs_same : (f : Positions) (s : Scheduler) (step : StatementStep) (a : Activation) → regs_after s (moved_step f step) (moved_activation f a) ≡ regs_after s step a
regs_same f s (Went b w) a = refl
regs_same f s (Ended regs w) a = refl
regs_same f s (SyncError code b) a = refl
regs_same f s (SysCall number given b) a =
    ap regs_served (served_moves f number given.inputs s b) ∙ served_regs f (system_function_served number given.inputs s b)
regs_same f s (Stop cause) a = refl
regs_same f s Stuck a = refl

step_record_same :
    (f : Positions) (c d : Code) (activations : List Activation) (s : State) → StatementsMove → FollowsCode f c d
    → step_record d (moved_state f s) (map (moved_activation f) activations) ≡ step_record c s activations
step_record_same f c d [] s statements follows = refl
step_record_same f c d (a ∷ below) s statements follows =
    ap (λ (step : StatementStep). recorded (regs_after s.sched step (moved_activation f a)) (spot_of_frame d (moved_frame f a.running.frame)))
    (statements f c d a s.store follows)
    ∙ ap (λ (r : Regs). recorded r (spot_of_frame d (moved_frame f a.running.frame))) (regs_same f s.sched (statement_step c a s.store) a)
    ∙ ap (λ (at : Option Spot). recorded (regs_after s.sched (statement_step c a s.store) a) at) (spot_moves f c d a.running.frame follows)
  where
    recorded : Regs → Option Spot → Option MonRecord
    recorded regs at = if is_monitored s.monitored a.running.frame.block then option_map (mon_record_at regs) at else None

record_same :
    (f : Positions) (c d : Code) (entry : What) (s : State) → StatementsMove → FollowsCode f c d
    → monitoring_record d (moved_state f s) entry ≡ monitoring_record c s entry
unfolding monitoring_record
record_same f c d what.Step s statements follows =
    ap (λ (r : Option MonRecord). if is_stop s.mode then None else r) (step_record_same f c d s.activations s statements follows)
record_same f c d (what.Input byte value) s statements follows = refl
record_same f c d (what.Arrive ob value) s statements follows = refl
record_same f c d (what.Tick ms) s statements follows = refl
record_same f c d (what.Ask request) s statements follows = refl

-- ---- entries

effect_moves :
    (f : Positions) (c d : Code) (entry : What) (s : State) → StatementsMove → FollowsCode f c d
    → entry_effect d entry (moved_state f s) ≡ moved_state f (entry_effect c entry s)
effect_moves f c d what.Step s statements follows = either (moved_state f) (is_stop s.mode) s _ (after_step c s) _ refl (stepped_moves f c d s statements follows)
effect_moves f c d (what.Input byte value) s statements follows = refl
effect_moves f c d (what.Arrive ob value) s statements follows = arrived_moves f c d ob value s follows
effect_moves f c d (what.Tick ms) s statements follows = time_passes_moves f c d ms s follows
effect_moves f c d (what.Ask request) s statements follows = asked_moves f c d request s follows

after_entry_moves :
    (f : Positions) (c d : Code) (s : State) (entry : What) → StatementsMove → FollowsCode f c d
    → state_after d entry (moved_state f s) ≡ moved_state f (state_after c entry s)
unfolding state_after
after_entry_moves f c d s entry statements follows =
    ap (after_settling d) (effect_moves f c d entry (entry_counted s) statements follows) ∙ settled_moves f c d (entry_effect c entry (entry_counted s)) follows

-- what happened, by the states and by what was answered and recorded
abbrev happened_with : (before after : State) → Reply → Option MonRecord → EntryResult
happened_with before after reply mon = record {
  state = after;
  reply = reply;
  seen = observed_changes mon before.store.memory.peripheral_outputs before.mode after;
}

pub entries_move : StatementsMove → EntriesMove
unfolding entry_result entry_shown
entries_move statements f c d s entry follows =
    ap (λ (after : State). entry_result_between d (moved_state f s) entry after) (after_entry_moves f c d s entry statements follows)
    ∙ ap
    (λ (reply : Reply). happened_with s (moved_state f (state_after c entry s)) reply (monitoring_record d (moved_state f s) entry))
    (reply_moves f c d entry s follows)
    ∙ ap
    (λ (mon : Option MonRecord). happened_with s (moved_state f (state_after c entry s)) (reply_to c s entry) mon)
    (record_same f c d entry s statements follows)

-- ---- histories

run_moves :
    (f : Positions) (c d : Code) (s : State) (history : List What) → StatementsMove → FollowsCode f c d
    → state_after_entries d (moved_state f s) history ≡ moved_state f (state_after_entries c s history)
unfolding entry_result
run_moves f c d s [] statements follows = refl
run_moves f c d s (entry ∷ rest) statements follows =
    ap (λ (z : State). state_after_entries d z rest) (after_entry_moves f c d s entry statements follows)
    ∙ run_moves f c d (state_after c entry s) rest statements follows

obs_same : (f : Positions) (c d : Code) (obs : List ℕ) → FollowsCode f c d → filter (λ ob. is_some (d.head (ob_block ob))) obs ≡ filter (λ ob. is_some (c.head (ob_block ob))) obs
obs_same f c d [] follows = refl
obs_same f c d (ob ∷ obs) follows = rw (follows.head (ob_block ob)) (rw (obs_same f c d obs follows) refl)

before_moves : (profile : Profile) (f : Positions) (c d : Code) → FollowsCode f c d → before_start profile d ≡ moved_state f (before_start profile c)
before_moves profile f c d follows = rw (follows.blocks) (rw (obs_same f c d all_obs follows) refl)

start_moves : (profile : Profile) (f : Positions) (c d : Code) → FollowsCode f c d → initial_state profile d ≡ moved_state f (initial_state profile c)
unfolding initial_state
start_moves profile f c d follows =
    ap (state_in_startup (startup_ob profile d)) (before_moves profile f c d follows)
    ∙ ap (λ (o : Option Activation). state_in_startup o (moved_state f (before_start profile c))) (ob_in_moves profile f c d 27 100 startup_info follows)
    ∙ started_moves f (startup_ob profile c) (before_start profile c)

pub histories_move : StatementsMove → HistoriesMove
unfolding replay
histories_move statements profile f c d history follows =
    ap (λ (s : State). state_after_entries d s history) (start_moves profile f c d follows) ∙ run_moves f c d (initial_state profile c) history statements follows
