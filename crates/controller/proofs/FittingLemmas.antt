-- Each valid entry keeps a state that fits a program that verifies.
use Rattle.std.proofs.Common.{◌≡◌, ℕ, ◌+◌, ◌≤◌, Bool, true, false, List, [], ◌∷◌, Option, Some, None, length-append, refl, sym, ◌∙◌, subst, arith, if◌then◌else◌}
use Rattle.std.specs.Prelude.{◌==◌, not, nat_le, ◌&&◌, ◌-◌, min, is_some, unwrap_or, length, replicate, take}
use Rattle.std.specs.Option.{option_map}
use Rattle.std.proofs.lemmas.List.{length-take, length-replicate}
use Rattle.plc_base.specs.StopCauses as causes
use Rattle.plc_base.specs.declared.Profile.{Profile}
use Rattle.plc_base.specs.declared.Profile.TheVariants.{Small, Large}
use Rattle.plc_base.specs.Profiles.{bit_memory_size}
use Rattle.plc_base.specs.declared.BlockId.{BlockId}
use Rattle.plc_base.specs.declared.Mode.TheVariants.{Run, Startup}
use Rattle.plc_base.specs.declared.Spot.{Spot}
use Rattle.plc_mem.specs.Areas.{Areas}
use Rattle.plc_mem.specs.Fresh.{initial_memory}
use Rattle.plc_mem.specs.Peripherals.{with_input, outputs_cleared}
use Rattle.plc_mem.specs.Refresh.{memory_refreshed}
use Rattle.plc_mem.specs.Restart.{retained_bit_memory, memory_after_restart}
use Rattle.plc_mem.specs.Writing.{number_written}
use Rattle.frames.specs.Activations.{activation_begun, with_local_byte}
use Rattle.frames.specs.declared.Activation.{Activation}
use Rattle.frames.specs.declared.bindings.Binding.{Binding}
use Rattle.flat_code.specs.Loading.{Verifies}
use Rattle.flat_code.specs.Programs.{Program}
use Rattle.machine.specs.Code.{BlockHead}
use Rattle.machine.specs.Entering.{at_block}
use Rattle.machine.specs.Fitting.{IsMemoryOf, SameSizes}
use Rattle.machine.specs.Flat.{code_of}
use Rattle.machine.specs.Lasting.{FitsProgram, GoesOnFitting, StepFitsAgain, first_frame, ob_block}
use Rattle.machine.specs.Statement.{GlobalStore, StatementStep, Went, Ended, SyncError, SysCall, Stop as Stops, Stuck, statement_step}
use Rattle.machine.proofs.Sizes.{same_sizes, sizes_then, same_parts}
use Rattle.ob_sched.specs.TickState.{TickState, ob_requested}
use Rattle.ob_sched.specs.Millisecond.{tick_begun, after_tick}
use Rattle.ob_sched.specs.OrganizationBlock.{priority_class_in, is_delay}
use Rattle.ob_sched.specs.StartRequest.{best_of}
use Rattle.ob_sched.specs.Scheduler.{Scheduler, best_removed, delay_of, delay_started, delay_cancelled, cycle_retriggered}
use Rattle.ob_sched.specs.StartInformation.{ob_of_error, start_info}
use Rattle.ob_sched.specs.declared.requests.Pending.{Pending}
use Rattle.ob_sched.specs.declared.start_infos.StartEvent.TheVariants.{Arrival}
use Rattle.ob_sched.specs.declared.start_infos.StartInfo.{StartInfo}
use Rattle.sys_funcs.specs.Disabling.{selection_error_code, interrupts_disabled}
use Rattle.sys_funcs.specs.Functions.{dis_airt, en_airt, interrupts_disabled_or_error, dis_irt, en_irt, srt_dint, can_dint, time_tck, with_delay}
use Rattle.sys_funcs.specs.Results.{SystemFunctionResult, int_result, with_br_set}
use Rattle.var_access.specs.declared.Request.{Request}
use Rattle.var_access.specs.declared.Request.TheVariants as ask
use Rattle.var_access.specs.declared.Var.{Var}
use Rattle.var_access.specs.declared.What.{What}
use Rattle.var_access.specs.declared.What.TheVariants as what
use Rattle.var_access.specs.Entry.{IsInRange}
use Rattle.controller.specs.Asking.{request_effect}
use Rattle.controller.specs.Beginning.{ob_frame, with_start_bytes, ob_begun, ob_activation, with_ob_begun}
use Rattle.controller.specs.CyclePoint.{cycle_point, cycle_finished, cycle_info}
use Rattle.controller.specs.Errors.{is_synchronous, cause_without, error_event, with_caller_registers, error_in, error_ob_started, error_raised}
use Rattle.controller.specs.Event.{entry_counted, entry_effect, state_after}
use Rattle.controller.specs.Fitting.{AllFit, AreInRange, EntriesKeepFit, FitIsReady, HistoriesAreFit, IsFit, HasWholeSchedule, StartIsFit}
use Rattle.controller.specs.MachineLaws.{MachineLaws}
use Rattle.controller.specs.Ready.{IsReady}
use Rattle.controller.specs.Replay.{entry_result, state_after_entries, replay}
use Rattle.controller.specs.Requests.{state_stopped_if, tick_state_taken, arrival_served}
use Rattle.controller.specs.Serving.{ServiceResult, Returns, Passes, Stops as Halts, in_parameter, system_function_served, result_given, after_service}
use Rattle.controller.specs.Settling.{may_start, request_taken, request_started, best_started, after_settling}
use Rattle.controller.specs.Stack.{IsActivationStack, MayBegin}
use Rattle.controller.specs.Start.{before_start, restart_cleared, loaded_obs, state_after_warm_restart, initial_state, state_in_startup, startup_info, startup_ob}
use Rattle.controller.specs.State.{State, is_stop, diagnosis_recorded, diagnoses_recorded}
use Rattle.controller.specs.Stepping.{after_step, step_of_first, after_statement, run_starts, ob_ended, with_activations}
use Rattle.controller.specs.Stopping.{stop_entered, stop_entered_at, running_spot, spot_of_frame}
use Rattle.controller.specs.Ticking.{active_obs, tick_taken, time_passed, timers_moved}
use Rattle.controller.proofs.CallLemmas.{SameServed, served_same, given_same}
use Rattle.controller.proofs.SameLemmas.{SameStep, statement_same}
use Rattle.controller.proofs.ScheduleLemmas.{of_either, best_waits, rest_schedule, started_schedule, stopped_schedule, run_schedule, cycle_schedule, restarted_schedule, retriggered_schedule, delay_schedule, cancelled_schedule, all_schedule, requested_known, arrival_waits, ticked_known}
use Rattle.controller.proofs.StandingLemmas.{IsObActivation, begun_stands, best_class, best_may_begin, cycle_may_begin, error_stands, first_stands, ob_is, stop_idle}
use Rattle.controller.proofs.StepLemmas.{ended_by, same_stack}

-- ---- where memory keeps its sizes

memory_stays : (p : Program) (m n : Areas) → SameSizes m n → IsMemoryOf (code_of p) m
    → IsMemoryOf (code_of p) n
memory_stays p m n same is = record {
  profile = is.profile;
  sizes = sizes_then (initial_memory is.profile (code_of p).blocks) m n is.sizes same;
}

all_stay : (l : MachineLaws) (p : Program) (m n : Areas) (activations : List Activation) → SameSizes m n
    → AllFit p m activations → AllFit p n activations
all_stay l p m n [] same fit = tt
all_stay l p m n (a ∷ below) same fit =
    (l.stays p m n a same fit.0, all_stay l p m n below same fit.1)

-- another memory of the same sizes, with the same activations
moved_memory : (l : MachineLaws) (p : Program) (s : State) (w : GlobalStore)
    → SameSizes s.store.memory w.memory → IsFit p s → IsFit p (record s { store = w })
moved_memory l p s w same fit = record {
  memory = memory_stays p s.store.memory w.memory same fit.memory;
  activations = all_stay l p s.store.memory w.memory s.activations same fit.activations;
  activation_stack = fit.activation_stack;
  sched = fit.sched;
}

other_sched : (p : Program) (s : State) (sched : Scheduler) → HasWholeSchedule sched → IsFit p s
    → IsFit p (record s { sched = sched })
other_sched p s sched is fit = record {
  memory = fit.memory;
  activations = fit.activations;
  activation_stack = fit.activation_stack;
  sched = is;
}

-- ---- organization blocks that begin

FitsIf : Program → Areas → Option Activation → Type 0
FitsIf p m None = Unit {0}
FitsIf p m (Some a) = FitsProgram p m a

with_start_byte_fits : (l : MachineLaws) (p : Program) (m : Areas) (byte value : ℕ) (a : Activation)
    (written : Option Activation) → with_local_byte 0 byte value a ≡ written → FitsProgram p m a
    → FitsProgram p m (unwrap_or written a)
with_start_byte_fits l p m byte value a None is fit = fit
with_start_byte_fits l p m byte value a (Some b) is fit = l.local_byte p m a b 0 byte value is fit

with_start_bytes_fits : (l : MachineLaws) (p : Program) (m : Areas) (bytes : List ℕ) (byte : ℕ) (a : Activation)
    → FitsProgram p m a → FitsProgram p m (with_start_bytes byte bytes a)
with_start_bytes_fits l p m [] byte a fit = fit
with_start_bytes_fits l p m (value ∷ rest) byte a fit =
    with_start_bytes_fits l p m rest (byte + 1) (unwrap_or (with_local_byte 0 byte value a) a)
    (with_start_byte_fits l p m byte value a (with_local_byte 0 byte value a) refl fit)

local_len_uncut : (n : ℕ) → n ≤ 1024 → min n 1024 ≡ n
local_len_uncut n few = omega arith

begun_fits : (profile : Profile) (l : MachineLaws) (p : Program) (m : Areas) (class ob : ℕ) (info : StartInfo) (h : BlockHead)
    → Verifies p → IsMemoryOf (code_of p) m → (code_of p).head (ob_block ob) ≡ Some h
    → FitsProgram p m (ob_begun profile class ob info h)
unfolding ob_begun
begun_fits profile l p m class ob info h verifies memory found =
    with_start_bytes_fits l p m info.bytes 0 (activation_begun profile class ob (ob_frame ob h))
    (subst (λ (n : ℕ). FitsProgram p m (activation_begun profile class ob (first_frame ob n)))
    (sym (local_len_uncut h.local_len (l.room p ob h verifies found)))
    (l.begins profile p m class ob h verifies memory found))

ob_fits_by : (profile : Profile) (l : MachineLaws) (p : Program) (m : Areas) (class ob : ℕ) (info : StartInfo)
    (found : Option BlockHead) → Verifies p → IsMemoryOf (code_of p) m
    → (code_of p).head (ob_block ob) ≡ found
    → FitsIf p m (option_map (ob_begun profile class ob info) found)
unfolding FitsIf
ob_fits_by profile l p m class ob info None verifies memory is = tt
ob_fits_by profile l p m class ob info (Some h) verifies memory is =
    begun_fits profile l p m class ob info h verifies memory is

ob_fits : (profile : Profile) (l : MachineLaws) (p : Program) (m : Areas) (class ob : ℕ) (info : StartInfo) → Verifies p
    → IsMemoryOf (code_of p) m → FitsIf p m (ob_activation profile (code_of p) class ob info)
ob_fits profile l p m class ob info verifies memory =
    ob_fits_by profile l p m class ob info ((code_of p).head (ob_block ob)) verifies memory refl

begins_above : (p : Program) (class ob : ℕ) (one : Option Activation) (s : State)
    → FitsIf p s.store.memory one → IsObActivation class ob one → MayBegin s.mode class ob s.activations
    → IsFit p s → IsFit p (with_ob_begun one s)
unfolding FitsIf IsObActivation
begins_above p class ob None s one is may fit = fit
begins_above p class ob (Some a) s one is may fit = record {
  memory = fit.memory;
  activations = (one, fit.activations);
  activation_stack = begun_stands s.mode class ob a s.activations is.0 is.1 fit.activation_stack may;
  sched = fit.sched;
}

-- ---- records and stops

diagnosed_fit : (p : Program) (code info : ℕ) (s : State) → IsFit p s
    → IsFit p (diagnosis_recorded code info s)
diagnosed_fit p code info s fit = record {
  memory = fit.memory;
  activations = fit.activations;
  activation_stack = fit.activation_stack;
  sched = fit.sched;
}

each_fit : (p : Program) (records : List (ℕ × ℕ)) (s : State) → IsFit p s
    → IsFit p (diagnoses_recorded records s)
each_fit p [] s fit = fit
each_fit p (one ∷ rest) s fit =
    each_fit p rest (diagnosis_recorded one.0 one.1 s) (diagnosed_fit p one.0 one.1 s fit)

halts : (l : MachineLaws) (p : Program) (at : Option Spot) (cause : ℕ) (s : State) → IsFit p s
    → IsFit p (stop_entered_at at cause s)
halts l p at cause s fit = record {
  memory =
      memory_stays p s.store.memory (outputs_cleared s.store.memory)
      (l.clears p s.store.memory fit.memory) fit.memory;
  activations = tt;
  activation_stack = record { stack = tt; startup = tt };
  sched = stopped_schedule s.sched fit.sched;
}

halted_fits : (l : MachineLaws) (p : Program) (cause : ℕ) (s : State) → IsFit p s
    → IsFit p (stop_entered (code_of p) cause s)
unfolding stop_entered
halted_fits l p cause s fit = halts l p (running_spot (code_of p) s.activations) cause s fit

-- ---- synchronous errors

copied_fits : (l : MachineLaws) (p : Program) (m : Areas) (a : Activation) (one : Option Activation)
    → FitsIf p m one → FitsIf p m (option_map (with_caller_registers a) one)
unfolding FitsIf
copied_fits l p m a None fit = tt
copied_fits l p m a (Some fresh) fit =
    l.delay p m (record fresh { running = record fresh.running { regs = at_block a.running.regs } })
    a.delay (l.registers p m fresh (at_block a.running.regs) fit)

copied_is : (class ob : ℕ) (a : Activation) (one : Option Activation) → IsObActivation class ob one
    → IsObActivation class ob (option_map (with_caller_registers a) one)
unfolding IsObActivation
copied_is class ob a None is = tt
copied_is class ob a (Some fresh) is = is

-- the activation in which the error came has gone on to `a`
answers : (l : MachineLaws) (p : Program) (one : Option Activation) (error : ℕ) (at : Option Spot)
    (a : Activation) (below : List Activation) (s : State) → is_synchronous a.ob ≡ false
    → FitsIf p s.store.memory one → IsObActivation a.class (ob_of_error error) one
    → AllFit p s.store.memory (a ∷ below) → IsActivationStack s.mode (a ∷ below) → IsFit p s
    → IsFit p (error_ob_started one error at a below s)
unfolding FitsIf IsObActivation
answers l p None error at a below s single one is all standing fit =
    halts l p at (cause_without (ob_of_error error)) s fit
answers l p (Some fresh) error at a below s single one is all standing fit = record {
  memory = fit.memory;
  activations = (one, all);
  activation_stack = error_stands s.mode error fresh a below is.0 is.1 single standing;
  sched = fit.sched;
}

failed_fits : (l : MachineLaws) (p : Program) (error : ℕ) (at : Option Spot) (a : Activation)
    (below : List Activation) (s : State) → Verifies p → AllFit p s.store.memory (a ∷ below)
    → IsActivationStack s.mode (a ∷ below) → IsFit p s → IsFit p (error_raised (code_of p) error at a below s)
unfolding error_raised
failed_fits l p error at a below s verifies all standing fit = by (is_synchronous a.ob) refl
  where
    recorded : IsFit p (diagnosis_recorded 4 error s)
    recorded = diagnosed_fit p 4 error s fit

    by : (test : Bool) → is_synchronous a.ob ≡ test
        → IsFit p (if test then stop_entered_at at causes.in_error_ob (diagnosis_recorded 4 error s)
        else error_ob_started (error_in (code_of p) error at a) error at a below (diagnosis_recorded 4 error s))
    by true is = halts l p at causes.in_error_ob (diagnosis_recorded 4 error s) recorded
    by false is =
        answers l p (error_in (code_of p) error at a) error at a below (diagnosis_recorded 4 error s) is
        (copied_fits l p s.store.memory a _
        (ob_fits a.profile l p s.store.memory a.class (ob_of_error error)
        (start_info (error_event error at) a.class) verifies fit.memory))
        (copied_is a.class (ob_of_error error) a _
        (ob_is a.profile (code_of p) a.class (ob_of_error error) (start_info (error_event error at) a.class)))
        all standing recorded

-- ---- system functions

-- what a system function leaves fits
record Kept (p : Program) (m : Areas) (s : Scheduler) (a : Activation) : Type 0 where
  pub fits : FitsProgram p m a
  pub sched : HasWholeSchedule s

KeepsReturned : Program → Areas → SystemFunctionResult → Type 0
KeepsReturned p m r = Kept p m r.sched r.activation

returns : (l : MachineLaws) (p : Program) (m : Areas) (s : Scheduler) (a : Activation) (value : ℕ)
    → FitsProgram p m a → HasWholeSchedule s → KeepsReturned p m (int_result s a value)
unfolding KeepsReturned
returns l p m s a value fit is = record {
  fits = l.registers p m a _ fit;
  sched = is;
}

dis_airt_fits : (l : MachineLaws) (p : Program) (m : Areas) (s : Scheduler) (a : Activation)
    → FitsProgram p m a → HasWholeSchedule s → KeepsReturned p m (dis_airt s a)
unfolding dis_airt
dis_airt_fits l p m s a fit is =
    returns l p m s (with_delay (min (a.delay + 1) 32767) a) (min (a.delay + 1) 32767)
    (l.delay p m a (min (a.delay + 1) 32767) fit) is

en_airt_fits : (l : MachineLaws) (p : Program) (m : Areas) (s : Scheduler) (a : Activation)
    → FitsProgram p m a → HasWholeSchedule s → KeepsReturned p m (en_airt s a)
unfolding en_airt
en_airt_fits l p m s a fit is =
    of_either (KeepsReturned p m) (a.delay == 0) (int_result s a 0x8080)
    (int_result s (with_delay (a.delay - 1) a) (a.delay - 1))
    (returns l p m s a 0x8080 fit is)
    (returns l p m s (with_delay (a.delay - 1) a) (a.delay - 1) (l.delay p m a (a.delay - 1) fit) is)

set_fits : (l : MachineLaws) (p : Program) (m : Areas) (code : Option ℕ) (disabled : Bool)
    (mode ob_nr : ℕ) (s : Scheduler) (a : Activation) → FitsProgram p m a → HasWholeSchedule s
    → KeepsReturned p m (interrupts_disabled_or_error code disabled mode ob_nr s a)
set_fits l p m (Some code) disabled mode ob_nr s a fit is = returns l p m s a code fit is
set_fits l p m None disabled mode ob_nr s a fit is =
    returns l p m (interrupts_disabled disabled mode ob_nr s) a 0 fit (all_schedule disabled mode ob_nr s is)

dis_irt_fits : (l : MachineLaws) (p : Program) (m : Areas) (s : Scheduler) (a : Activation)
    (mode ob_nr : ℕ) → FitsProgram p m a → HasWholeSchedule s
    → KeepsReturned p m (dis_irt s a mode ob_nr)
unfolding dis_irt
dis_irt_fits l p m s a mode ob_nr fit is =
    set_fits l p m (selection_error_code mode ob_nr) true mode ob_nr s a fit is

en_irt_fits : (l : MachineLaws) (p : Program) (m : Areas) (s : Scheduler) (a : Activation)
    (mode ob_nr : ℕ) → FitsProgram p m a → HasWholeSchedule s
    → KeepsReturned p m (en_irt s a mode ob_nr)
unfolding en_irt
en_irt_fits l p m s a mode ob_nr fit is =
    set_fits l p m (selection_error_code mode ob_nr) false mode ob_nr s a fit is

srt_dint_fits : (l : MachineLaws) (p : Program) (m : Areas) (s : Scheduler) (a : Activation)
    (ob_nr dtime sign : ℕ) → FitsProgram p m a → HasWholeSchedule s
    → KeepsReturned p m (srt_dint s a ob_nr dtime sign)
unfolding srt_dint
srt_dint_fits l p m s a ob_nr dtime sign fit is =
    of_either (KeepsReturned p m) (not (is_delay ob_nr)) (int_result s a 0x8090) _
    (returns l p m s a 0x8090 fit is)
    (of_either (KeepsReturned p m) (not (nat_le 1 dtime && nat_le dtime 60000))
    (int_result s a 0x8091) (int_result (delay_started ob_nr dtime s) a 0)
    (returns l p m s a 0x8091 fit is)
    (returns l p m (delay_started ob_nr dtime s) a 0 fit (delay_schedule ob_nr dtime s is)))

can_dint_fits : (l : MachineLaws) (p : Program) (m : Areas) (s : Scheduler) (a : Activation) (ob_nr : ℕ)
    → FitsProgram p m a → HasWholeSchedule s → KeepsReturned p m (can_dint s a ob_nr)
unfolding can_dint
can_dint_fits l p m s a ob_nr fit is =
    of_either (KeepsReturned p m) (not (is_delay ob_nr)) (int_result s a 0x8090) _
    (returns l p m s a 0x8090 fit is)
    (of_either (KeepsReturned p m) (is_some (delay_of s.countdowns ob_nr))
    (int_result (delay_cancelled ob_nr s) a 0) (int_result s a 0x80A0)
    (returns l p m (delay_cancelled ob_nr s) a 0 fit (cancelled_schedule ob_nr s is))
    (returns l p m s a 0x80A0 fit is))

time_tck_fits : (l : MachineLaws) (p : Program) (m : Areas) (s : Scheduler) (a : Activation)
    → FitsProgram p m a → HasWholeSchedule s → KeepsReturned p m (time_tck s a)
unfolding time_tck KeepsReturned
time_tck_fits l p m s a fit is = record { fits = l.registers p m a _ fit; sched = is }

KeepsServed : Program → Areas → ServiceResult → Type 0
KeepsServed p m (Returns r) = KeepsReturned p m r
KeepsServed p m (Passes sched a) = Kept p m sched a
KeepsServed p m (Halts cause a) = Unit {0}

served_fits : (l : MachineLaws) (p : Program) (m : Areas) (number : ℕ) (inputs : List ℕ) (s : Scheduler)
    (a : Activation) → FitsProgram p m a → HasWholeSchedule s
    → KeepsServed p m (system_function_served number inputs s a)
unfolding system_function_served KeepsServed
served_fits l p m number inputs s a fit is =
    of_either (KeepsServed p m) (number == 32) _ _
    (srt_dint_fits l p m s a (in_parameter 0 inputs) (in_parameter 1 inputs) (in_parameter 2 inputs) fit is)
    (of_either (KeepsServed p m) (number == 33) _ _
    (can_dint_fits l p m s a (in_parameter 0 inputs) fit is)
    (of_either (KeepsServed p m) (number == 39) _ _
    (dis_irt_fits l p m s a (in_parameter 0 inputs) (in_parameter 1 inputs) fit is)
    (of_either (KeepsServed p m) (number == 40) _ _
    (en_irt_fits l p m s a (in_parameter 0 inputs) (in_parameter 1 inputs) fit is)
    (of_either (KeepsServed p m) (number == 41) _ _ (dis_airt_fits l p m s a fit is)
    (of_either (KeepsServed p m) (number == 42) _ _ (en_airt_fits l p m s a fit is)
    (of_either (KeepsServed p m) (number == 43) (Passes (cycle_retriggered s) (with_br_set a)) _
    (record { fits = l.registers p m a _ fit; sched = retriggered_schedule s is })
    (of_either (KeepsServed p m) (number == 46) (Halts 1 (with_br_set a)) _ tt (time_tck_fits l p m s a fit is))))))))

given_fits : (l : MachineLaws) (p : Program) (m : Areas) (to : Option Binding) (value : ℕ)
    (a : Activation) → Verifies p → FitsProgram p m a
    → GoesOnFitting p m (result_given to value a m).memory (result_given to value a m).activation
given_fits l p m None value a verifies fit = record { sizes = same_sizes m; fits = fit }
given_fits l p m (Some to) value a verifies fit =
    l.result p m _ a _ to value verifies fit (refl, refl)

service_fits : (l : MachineLaws) (p : Program) (call : Option Spot) (sv : ServiceResult) (to : Option Binding)
    (a : Activation) (below : List Activation) (s : State) → Verifies p
    → KeepsServed p s.store.memory sv → SameServed a sv → AllFit p s.store.memory below
    → IsActivationStack s.mode (a ∷ below) → IsFit p s → IsFit p (after_service call sv to below s)
unfolding KeepsServed KeepsReturned SameServed
service_fits l p call (Returns r) to a below s verifies kept same rest standing fit =
    let goes = given_fits l p s.store.memory to r.value r.activation verifies kept.fits in
    record {
      memory = memory_stays p s.store.memory _ goes.sizes fit.memory;
      activations = (goes.fits, all_stay l p s.store.memory _ below goes.sizes rest);
      activation_stack =
          same_stack s.mode a (result_given to r.value r.activation s.store.memory).activation below
          (given_same to r.value a r.activation s.store.memory same) standing;
      sched = kept.sched;
    }
service_fits l p call (Passes sched b) to a below s verifies kept same rest standing fit = record {
  memory = fit.memory;
  activations = (kept.fits, rest);
  activation_stack = same_stack s.mode a b below same standing;
  sched = kept.sched;
}
service_fits l p call (Halts cause b) to a below s verifies kept same rest standing fit =
    halts l p call cause s fit

-- ---- a statement

run_starts_fits : (p : Program) (s : State) → IsActivationStack Run s.activations → IsFit p s
    → IsFit p (run_starts s)
run_starts_fits p s standing fit = record {
  memory = fit.memory;
  activations = fit.activations;
  activation_stack = standing;
  sched = run_schedule s.sched fit.sched;
}

ended_fits : (l : MachineLaws) (p : Program) (w : GlobalStore) (a : Activation) (below : List Activation)
    (s : State) → SameSizes s.store.memory w.memory → AllFit p s.store.memory below
    → IsActivationStack s.mode (a ∷ below) → IsFit p s
    → IsFit p (ob_ended a.ob (with_activations w below s))
ended_fits l p w a below s same rest standing fit = by (a.ob == 100) refl
  where
    memory : IsMemoryOf (code_of p) w.memory
    memory = memory_stays p s.store.memory w.memory same fit.memory

    all : AllFit p w.memory below
    all = all_stay l p s.store.memory w.memory below same rest

    by : (test : Bool) → (a.ob == 100) ≡ test
        → IsFit p (if test then run_starts (with_activations w below s)
        else with_activations w below s)
    by true is = record {
      memory = memory;
      activations = all;
      activation_stack = ended_by true s.mode a below is standing;
      sched = run_schedule s.sched fit.sched;
    }
    by false is = record {
      memory = memory;
      activations = all;
      activation_stack = ended_by false s.mode a below is standing;
      sched = fit.sched;
    }

statement_fits : (l : MachineLaws) (p : Program) (step : StatementStep) (a : Activation) (at : Option Spot)
    (below : List Activation) (s : State) → Verifies p → StepFitsAgain p s.store step → SameStep a step
    → AllFit p s.store.memory below → IsActivationStack s.mode (a ∷ below) → IsFit p s
    → IsFit p (after_statement (code_of p) step a.ob at below s)
statement_fits l p (Went b w) a at below s verifies lasts same rest standing fit = record {
  memory = memory_stays p s.store.memory w.memory lasts.sizes fit.memory;
  activations = (lasts.fits, all_stay l p s.store.memory w.memory below lasts.sizes rest);
  activation_stack = same_stack s.mode a b below same standing;
  sched = fit.sched;
}
statement_fits l p (Ended regs w) a at below s verifies lasts same rest standing fit =
    ended_fits l p w a below s lasts rest standing fit
statement_fits l p (SyncError error b) a at below s verifies lasts same rest standing fit =
    failed_fits l p error at b below s verifies (lasts.1, rest)
    (same_stack s.mode a b below same standing) fit
statement_fits l p (SysCall number given b) a at below s verifies lasts same rest standing fit =
    service_fits l p at (system_function_served number given.inputs s.sched b) given.result b below s verifies
    (served_fits l p s.store.memory number given.inputs s.sched b lasts.2 fit.sched)
    (served_same number given.inputs s.sched b) rest
    (same_stack s.mode a b below same standing) fit
statement_fits l p (Stops cause) a at below s verifies lasts same rest standing fit =
    halts l p at cause s fit
statement_fits l p Stuck a at below s verifies lasts same rest standing fit = absurd lasts

-- ---- a step

passed_fits : (l : MachineLaws) (p : Program) (s : State) → IsFit p s → IsFit p (cycle_finished s)
passed_fits l p s fit =
    let same : SameSizes s.store.memory (memory_refreshed s.store.memory) =
    l.refreshes p s.store.memory fit.memory in
    record {
      memory = memory_stays p s.store.memory (memory_refreshed s.store.memory) same fit.memory;
      activations =
          all_stay l p s.store.memory (memory_refreshed s.store.memory) s.activations same fit.activations;
      activation_stack = fit.activation_stack;
      sched = cycle_schedule s.sched fit.sched;
    }

cycle_fits : (l : MachineLaws) (p : Program) (s : State) → Verifies p → s.activations ≡ []
    → is_stop s.mode ≡ false → IsFit p s → IsFit p (cycle_point (code_of p) s)
unfolding cycle_point
cycle_fits l p s verifies idle running fit =
    let next : IsFit p (cycle_finished s) = passed_fits l p s fit in
    begins_above p (priority_class_in s.mode 1) 1
    (ob_activation s.profile (code_of p) (priority_class_in s.mode 1) 1 (cycle_info s)) (cycle_finished s)
    (ob_fits s.profile l p (memory_refreshed s.store.memory) (priority_class_in s.mode 1) 1 (cycle_info s) verifies next.memory)
    (ob_is s.profile (code_of p) (priority_class_in s.mode 1) 1 (cycle_info s))
    (cycle_may_begin s.mode s.activations idle running fit.activation_stack) next

stepped_on_fits : (l : MachineLaws) (p : Program) (activations : List Activation) (s : State)
    → Verifies p → s.activations ≡ activations → is_stop s.mode ≡ false → IsFit p s
    → IsFit p (step_of_first (code_of p) activations s)
stepped_on_fits l p [] s verifies is running fit = cycle_fits l p s verifies is running fit
stepped_on_fits l p (a ∷ below) s verifies is running fit =
    let all : AllFit p s.store.memory (a ∷ below) =
    subst (λ (acts : List Activation). AllFit p s.store.memory acts) is fit.activations in
    statement_fits l p (statement_step (code_of p) a s.store) a (spot_of_frame (code_of p) a.running.frame)
    below s verifies (l.lasts p a s.store verifies all.0) (statement_same (code_of p) a s.store) all.1
    (subst (λ (acts : List Activation). IsActivationStack s.mode acts) is fit.activation_stack) fit

step_fits : (l : MachineLaws) (p : Program) (s : State) → Verifies p → is_stop s.mode ≡ false
    → IsFit p s → IsFit p (after_step (code_of p) s)
unfolding after_step
step_fits l p s verifies running fit =
    stepped_on_fits l p s.activations s verifies refl running fit

unless_stop : (p : Program) (s t : State) → IsFit p s
    → (is_stop s.mode ≡ false → IsFit p t) → IsFit p (if is_stop s.mode then s else t)
unless_stop p s t fit next = by (is_stop s.mode) refl
  where
    by : (test : Bool) → is_stop s.mode ≡ test → IsFit p (if test then s else t)
    by true is = fit
    by false is = next is

-- ---- arrivals and passing time

stopped_fits : (l : MachineLaws) (p : Program) (cause : Option ℕ) (s : State) → IsFit p s
    → IsFit p (state_stopped_if (code_of p) cause s)
stopped_fits l p None s fit = fit
stopped_fits l p (Some cause) s fit = halted_fits l p cause s fit

tick_state_fits : (l : MachineLaws) (p : Program) (c : TickState) (s : State) → HasWholeSchedule c.sched → IsFit p s
    → IsFit p (tick_state_taken (code_of p) c s)
tick_state_fits l p c s is fit =
    stopped_fits l p c.passed.stop
    (diagnoses_recorded c.passed.records.items (record s { sched = c.sched }))
    (each_fit p c.passed.records.items (record s { sched = c.sched })
    (other_sched p s c.sched is fit))

arrived_fits : (l : MachineLaws) (p : Program) (ob value : ℕ) (s : State)
    → IsInRange (what.Arrive ob value) → IsFit p s → IsFit p (arrival_served (code_of p) ob value s)
unfolding arrival_served
arrived_fits l p ob value s known fit =
    unless_stop p s _ fit
    (λ running. tick_state_fits l p
    (ob_requested s.mode ob (start_info (Arrival ob value) (priority_class_in s.mode ob)) (tick_begun s.sched))
    s
    (requested_known s.mode ob (start_info (Arrival ob value) (priority_class_in s.mode ob))
    (tick_begun s.sched) (arrival_waits ob known) fit.sched)
    fit)

tick_fits : (l : MachineLaws) (p : Program) (c : TickState) (s : State) → HasWholeSchedule c.sched → IsFit p s
    → IsFit p (tick_taken (code_of p) c s)
tick_fits l p c s is fit =
    tick_state_fits l p c (record s { store = timers_moved c.passed.ms s.store }) is
    (moved_memory l p s (timers_moved c.passed.ms s.store) (same_sizes s.store.memory) fit)

time_fits : (l : MachineLaws) (p : Program) (ms : ℕ) (s : State) → IsFit p s
    → IsFit p (time_passed (code_of p) ms s)
unfolding time_passed
time_fits l p ms s fit =
    tick_fits l p (after_tick s.mode (active_obs s.activations) ms s.sched) s
    (ticked_known s.mode (active_obs s.activations) ms s.sched fit.sched) fit

-- ---- an input

input_fits : (l : MachineLaws) (m : Areas) (byte value : ℕ) (new : Option Areas)
    → with_input m byte value ≡ new → SameSizes m (unwrap_or new m)
input_fits l m byte value None is = same_sizes m
input_fits l m byte value (Some n) is = l.inputs m n byte value is

-- ---- a start

started_up_fits : (p : Program) (one : Option Activation) (s : State)
    → FitsIf p s.store.memory one → IsObActivation 27 100 one → s.activations ≡ [] → IsFit p s
    → IsFit p (state_in_startup one s)
unfolding FitsIf IsObActivation
started_up_fits p None s one is idle fit =
    run_starts_fits p s
    (subst (λ (acts : List Activation). IsActivationStack Run acts) (sym idle)
    (record { stack = tt; startup = tt })) fit
started_up_fits p (Some a) s one is idle fit = record {
  memory = fit.memory;
  activations = (one, fit.activations);
  activation_stack =
      subst (λ (acts : List Activation). IsActivationStack Startup (a ∷ acts)) (sym idle)
      (first_stands a is.0 is.1);
  sched = fit.sched;
}

-- a restart changes no size
bits_length : (profile : Profile) (bits : List ℕ) → length bits ≡ bit_memory_size profile
    → length (retained_bit_memory bits) ≡ length bits
bits_length profile bits is =
    let cut : List ℕ = replicate (length bits - 16) 0 in
    let count : length cut ≡ length bits - 16 = length-replicate {A = ℕ} (length bits - 16) 0 in
    omega (arith, length-append (take 16 bits) cut, length-take 16 bits, count, some profile bits is)
  where
    some : (profile : Profile) (bits : List ℕ) → length bits ≡ bit_memory_size profile → 16 ≤ length bits
    some Small bits is = omega (arith, is)
    some Large bits is = omega (arith, is)

first_bits : (profile : Profile) (blocks : List (ℕ × List ℕ)) → length (initial_memory profile blocks).bit_memory ≡ bit_memory_size profile
unfolding initial_memory
first_bits profile blocks = length-replicate {A = ℕ} (bit_memory_size profile) 0

cleared_sizes : (p : Program) (m : Areas) → IsMemoryOf (code_of p) m
    → SameSizes m (memory_after_restart m)
unfolding initial_memory
cleared_sizes p m is = record {
  inputs = sym is.sizes.inputs;
  outputs = sym is.sizes.outputs;
  bit_memory = bits_length is.profile m.bit_memory (is.sizes.bit_memory ∙ first_bits is.profile (code_of p).blocks);
  peripheral_inputs = same_parts m.peripheral_inputs;
  peripheral_outputs = same_parts m.peripheral_outputs;
  data_blocks = λ number. refl;
}

cleared_fits : (l : MachineLaws) (p : Program) (s : State) → IsFit p s → IsFit p (restart_cleared s)
cleared_fits l p s fit =
    let same : SameSizes s.store.memory (memory_after_restart s.store.memory) =
    cleared_sizes p s.store.memory fit.memory in
    record {
      memory = memory_stays p s.store.memory (memory_after_restart s.store.memory) same fit.memory;
      activations =
          all_stay l p s.store.memory (memory_after_restart s.store.memory) s.activations same
          fit.activations;
      activation_stack = fit.activation_stack;
      sched = restarted_schedule s.sched fit.sched;
    }

-- ---- requests of operators

written_fits : (l : MachineLaws) (m : Areas) (var : Var) (value : ℕ) (new : Option Areas)
    → number_written m var.place var.width value ≡ new → SameSizes m (unwrap_or new m)
written_fits l m var value None is = same_sizes m
written_fits l m var value (Some n) is = l.writes m n var.place var.width value is

restart_fits : (l : MachineLaws) (p : Program) (s : State) → Verifies p → is_stop s.mode ≡ true
    → IsFit p s → IsFit p (state_after_warm_restart (code_of p) s)
unfolding state_after_warm_restart
restart_fits l p s verifies stop fit =
    let next : IsFit p (restart_cleared (diagnosis_recorded 6 0 s)) =
    cleared_fits l p (diagnosis_recorded 6 0 s) (diagnosed_fit p 6 0 s fit) in
    started_up_fits p (startup_ob s.profile (code_of p)) (restart_cleared (diagnosis_recorded 6 0 s))
    (ob_fits s.profile l p (memory_after_restart s.store.memory) 27 100 startup_info verifies next.memory)
    (ob_is s.profile (code_of p) 27 100 startup_info)
    (stop_idle s.mode s.activations stop fit.activation_stack.stack) next

monitored_fits : (p : Program) (s : State) (monitored : Option BlockId) → IsFit p s
    → IsFit p (record s { monitored = monitored })
monitored_fits p s monitored fit = record {
  memory = fit.memory;
  activations = fit.activations;
  activation_stack = fit.activation_stack;
  sched = fit.sched;
}

asked_fits : (l : MachineLaws) (p : Program) (request : Request) (s : State) → Verifies p
    → IsFit p s → IsFit p (request_effect (code_of p) request s)
unfolding request_effect
asked_fits l p (ask.ReadVars vars) s verifies fit = fit
asked_fits l p (ask.WriteVar var value) s verifies fit =
    moved_memory l p s _
    (written_fits l s.store.memory var value
    (number_written s.store.memory var.place var.width value) refl) fit
asked_fits l p ask.Stop s verifies fit =
    unless_stop p s _ fit (λ running. halted_fits l p causes.by_operator s fit)
asked_fits l p ask.Restart s verifies fit = by (is_stop s.mode) refl
  where
    by : (test : Bool) → is_stop s.mode ≡ test
        → IsFit p (if test then state_after_warm_restart (code_of p) s else s)
    by true is = restart_fits l p s verifies is fit
    by false is = fit
asked_fits l p (ask.MonitorOn block) s verifies fit =
    of_either (IsFit p) (is_some ((code_of p).head block)) (record s { monitored = Some block }) s
    (monitored_fits p s (Some block) fit) fit
asked_fits l p ask.MonitorOff s verifies fit = monitored_fits p s None fit
asked_fits l p ask.Diag s verifies fit = fit

-- ---- an entry

counted_fits : (p : Program) (s : State) → IsFit p s → IsFit p (entry_counted s)
counted_fits p s fit = record {
  memory = fit.memory;
  activations = fit.activations;
  activation_stack = fit.activation_stack;
  sched = fit.sched;
}

effect_fits : (l : MachineLaws) (p : Program) (e : What) (s : State) → Verifies p → IsInRange e
    → IsFit p s → IsFit p (entry_effect (code_of p) e s)
effect_fits l p what.Step s verifies range fit =
    unless_stop p s (after_step (code_of p) s) fit (λ running. step_fits l p s verifies running fit)
effect_fits l p (what.Input byte value) s verifies range fit =
    moved_memory l p s _
    (input_fits l s.store.memory byte value (with_input s.store.memory byte value) refl) fit
effect_fits l p (what.Arrive ob value) s verifies range fit = arrived_fits l p ob value s range fit
effect_fits l p (what.Tick ms) s verifies range fit = time_fits l p ms s fit
effect_fits l p (what.Ask request) s verifies range fit = asked_fits l p request s verifies fit

-- ---- settling

request_fits : (l : MachineLaws) (p : Program) (best : Pending) (s : State) → Verifies p
    → MayBegin s.mode best.class best.ob s.activations → IsFit p s
    → IsFit p (request_started (code_of p) best s)
request_fits l p best s verifies may fit =
    begins_above p best.class best.ob (ob_activation s.profile (code_of p) best.class best.ob best.info)
    (request_taken s)
    (ob_fits s.profile l p s.store.memory best.class best.ob best.info verifies fit.memory)
    (ob_is s.profile (code_of p) best.class best.ob best.info) may
    (other_sched p s (best_removed s.sched) (started_schedule s.sched fit.sched) fit)

best_fits : (l : MachineLaws) (p : Program) (best : Option Pending) (s : State) → Verifies p
    → is_stop s.mode ≡ false → best_of s.mode s.sched.pending ≡ best → IsFit p s
    → IsFit p (best_started (code_of p) best s)
best_fits l p None s verifies running is fit = fit
best_fits l p (Some best) s verifies running is fit =
    by (may_start best.class s.activations) refl
  where
    by : (test : Bool) → may_start best.class s.activations ≡ test
        → IsFit p (if test then request_started (code_of p) best s else s)
    by true may =
        request_fits l p best s verifies
        (best_may_begin s.mode best.class best.ob s.activations running
        (best_waits s.mode s.sched.pending best is fit.sched.pending)
        (best_class s.mode s.sched.pending best is) may fit.activation_stack) fit
    by false may = fit

settled_fits : (l : MachineLaws) (p : Program) (s : State) → Verifies p → IsFit p s
    → IsFit p (after_settling (code_of p) s)
unfolding after_settling
settled_fits l p s verifies fit =
    unless_stop p s (best_started (code_of p) (best_of s.mode s.sched.pending) s) fit
    (λ running. best_fits l p (best_of s.mode s.sched.pending) s verifies running refl fit)

after_fits : (l : MachineLaws) (p : Program) (s : State) (e : What) → Verifies p → IsInRange e
    → IsFit p s → IsFit p (state_after (code_of p) e s)
unfolding state_after
after_fits l p s e verifies range fit =
    settled_fits l p (entry_effect (code_of p) e (entry_counted s)) verifies
    (effect_fits l p e (entry_counted s) verifies range (counted_fits p s fit))

-- ---- the first start

before_fits : (profile : Profile) (l : MachineLaws) (p : Program) → IsFit p (before_start profile (code_of p))
before_fits profile l p = record {
  memory = l.first profile p;
  activations = tt;
  activation_stack = record { stack = tt; startup = tt };
  sched = rest_schedule (loaded_obs (code_of p));
}

-- ---- the laws

pub ready : MachineLaws → FitIsReady
ready l p s verifies fit = by s.activations fit.activations
  where
    by : (activations : List Activation) → AllFit p s.store.memory activations
        → IsReady (code_of p) activations
    by [] all = tt
    by (a ∷ below) all = l.goes p s.store.memory a verifies all.0

pub start_fits : MachineLaws → StartIsFit
unfolding initial_state
start_fits l profile p verifies =
    let fit : IsFit p (before_start profile (code_of p)) = before_fits profile l p in
    started_up_fits p (startup_ob profile (code_of p)) (before_start profile (code_of p))
    (ob_fits profile l p (before_start profile (code_of p)).store.memory 27 100 startup_info verifies fit.memory)
    (ob_is profile (code_of p) 27 100 startup_info) refl fit

pub entries_keep : MachineLaws → EntriesKeepFit
unfolding entry_result
entries_keep l p s e verifies range fit = after_fits l p s e verifies range fit

run_fits : (l : MachineLaws) (p : Program) (s : State) (history : List What) → Verifies p
    → AreInRange history → IsFit p s → IsFit p (state_after_entries (code_of p) s history)
run_fits l p s [] verifies range fit = fit
run_fits l p s (e ∷ rest) verifies range fit =
    run_fits l p (entry_result (code_of p) s e).state rest verifies range.1
    (entries_keep l p s e verifies range.0 fit)

pub histories_fit : MachineLaws → HistoriesAreFit
unfolding replay
histories_fit l profile p history verifies range =
    run_fits l p (initial_state profile (code_of p)) history verifies range (start_fits l profile p verifies)
