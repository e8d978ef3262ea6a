-- Calls of system functions.
use Rattle.std.proofs.Common.{◌≡◌, ℕ, Bool, true, false, List, [], ◌∷◌, Option, Some, None, refl, sym, ap, ◌∙◌, subst, if◌then◌else◌}
use Rattle.std.specs.Prelude.{◌==◌, not, nat_le, ◌&&◌, is_some, ◌-◌, ◌%◌, ◌^◌, ok_or, unwrap_or}
use Rattle.std.specs.Option.{option_map}
use Rattle.plc_base.specs.declared.Mode.{Mode}
use Rattle.plc_base.specs.declared.Spot.{Spot}
use Rattle.plc_base.specs.Widths.{bit_count}
use Rattle.plc_mem.specs.Areas.{Areas}
use Rattle.plc_mem.specs.Writing.{number_written}
use Rattle.status_word.specs.declared.Regs.{Regs}
use Rattle.frames.specs.Locals.{LocalData, local_written}
use Rattle.frames.specs.declared.Activation.{Activation}
use Rattle.frames.specs.declared.bindings.Binding.{Binding}
use Rattle.frames.specs.declared.bindings.Binding.TheVariants as binding
use Rattle.machine.specs.Code.{Code}
use Rattle.machine.specs.Copies.{local_memory_or}
use Rattle.machine.specs.ExecState.{LocalMemory, local_memory_of}
use Rattle.machine.specs.Places.{is_area_l}
use Rattle.machine.specs.Results.{with_ret_val}
use Rattle.machine.specs.Statement.{with_memory}
use Rattle.machine.specs.Values.{with_locals, number_written_at}
use Rattle.ob_sched.specs.OrganizationBlock.{is_delay}
use Rattle.ob_sched.specs.Scheduler.{Scheduler, delay_of, delay_started, delay_cancelled, cycle_retriggered}
use Rattle.sys_funcs.specs.Disabling.{selection_error_code}
use Rattle.sys_funcs.specs.Functions.{dis_airt, en_airt, interrupts_disabled_or_error, dis_irt, en_irt, srt_dint, can_dint, time_tck, with_delay}
use Rattle.sys_funcs.specs.Results.{SystemFunctionResult, int_result, with_br_set}
use Rattle.controller.specs.Leaves.{call_finished, regs_called, running_of, ServesTo, ServesRunning}
use Rattle.controller.specs.Monitoring.{regs_served}
use Rattle.controller.specs.Serving.{ServiceResult, Returns, Passes, Stops, result_given, after_service, system_function_served, in_parameter}
use Rattle.controller.specs.Stack.{IsActivationStack}
use Rattle.controller.specs.State.{State}
use Rattle.controller.specs.Stopping.{stop_entered_at, statement_spot}
use Rattle.controller.specs.declared.activations.At.{At}
use Rattle.controller.proofs.SameLemmas.{Same}
use Rattle.controller.proofs.StepLemmas.{same_stack}

-- a system function changes neither the class nor the number of the running organization block
if_returned : (test : Bool) (a : Activation) (x y : SystemFunctionResult) → Same a x.activation
    → Same a y.activation → Same a (if test then x else y).activation
if_returned true a x y one other = one
if_returned false a x y one other = other

dis_airt_same : (s : Scheduler) (a : Activation) → Same a (dis_airt s a).activation
unfolding dis_airt
dis_airt_same s a = (refl, refl)

en_airt_same : (s : Scheduler) (a : Activation) → Same a (en_airt s a).activation
unfolding en_airt
en_airt_same s a =
    if_returned (a.delay == 0) a (int_result s a 0x8080)
    (int_result s (with_delay (a.delay - 1) a) (a.delay - 1)) (refl, refl) (refl, refl)

set_same : (code : Option ℕ) (disabled : Bool) (mode ob_nr : ℕ) (s : Scheduler) (a : Activation)
    → Same a (interrupts_disabled_or_error code disabled mode ob_nr s a).activation
set_same (Some code) disabled mode ob_nr s a = (refl, refl)
set_same None disabled mode ob_nr s a = (refl, refl)

dis_irt_same : (s : Scheduler) (a : Activation) (mode ob_nr : ℕ)
    → Same a (dis_irt s a mode ob_nr).activation
unfolding dis_irt
dis_irt_same s a mode ob_nr = set_same (selection_error_code mode ob_nr) true mode ob_nr s a

en_irt_same : (s : Scheduler) (a : Activation) (mode ob_nr : ℕ)
    → Same a (en_irt s a mode ob_nr).activation
unfolding en_irt
en_irt_same s a mode ob_nr = set_same (selection_error_code mode ob_nr) false mode ob_nr s a

srt_dint_same : (s : Scheduler) (a : Activation) (ob_nr dtime sign : ℕ)
    → Same a (srt_dint s a ob_nr dtime sign).activation
unfolding srt_dint
srt_dint_same s a ob_nr dtime sign =
    if_returned (not (is_delay ob_nr)) a (int_result s a 0x8090)
    (if not (nat_le 1 dtime && nat_le dtime 60000) then int_result s a 0x8091
    else int_result (delay_started ob_nr dtime s) a 0) (refl, refl)
    (if_returned (not (nat_le 1 dtime && nat_le dtime 60000)) a (int_result s a 0x8091)
    (int_result (delay_started ob_nr dtime s) a 0) (refl, refl) (refl, refl))

can_dint_same : (s : Scheduler) (a : Activation) (ob_nr : ℕ)
    → Same a (can_dint s a ob_nr).activation
unfolding can_dint
can_dint_same s a ob_nr =
    if_returned (not (is_delay ob_nr)) a (int_result s a 0x8090)
    (if is_some (delay_of s.countdowns ob_nr) then int_result (delay_cancelled ob_nr s) a 0
    else int_result s a 0x80A0) (refl, refl)
    (if_returned (is_some (delay_of s.countdowns ob_nr)) a (int_result (delay_cancelled ob_nr s) a 0)
    (int_result s a 0x80A0) (refl, refl) (refl, refl))

time_tck_same : (s : Scheduler) (a : Activation) → Same a (time_tck s a).activation
unfolding time_tck
time_tck_same s a = (refl, refl)

unfoldable pub SameServed : Activation → ServiceResult → Type 0
SameServed a (Returns r) = Same a r.activation
SameServed a (Passes sched b) = Same a b
SameServed a (Stops cause b) = Same a b

if_served : (test : Bool) (a : Activation) (x y : ServiceResult) → SameServed a x → SameServed a y
    → SameServed a (if test then x else y)
if_served true a x y one other = one
if_served false a x y one other = other

pub served_same : (number : ℕ) (inputs : List ℕ) (s : Scheduler) (a : Activation)
    → SameServed a (system_function_served number inputs s a)
unfolding system_function_served SameServed
served_same number inputs s a =
    if_served (number == 32) a _ _
    (srt_dint_same s a (in_parameter 0 inputs) (in_parameter 1 inputs) (in_parameter 2 inputs))
    (if_served (number == 33) a _ _ (can_dint_same s a (in_parameter 0 inputs))
    (if_served (number == 39) a _ _ (dis_irt_same s a (in_parameter 0 inputs) (in_parameter 1 inputs))
    (if_served (number == 40) a _ _ (en_irt_same s a (in_parameter 0 inputs) (in_parameter 1 inputs))
    (if_served (number == 41) a _ _ (dis_airt_same s a)
    (if_served (number == 42) a _ _ (en_airt_same s a)
    (if_served (number == 43) a (Passes (cycle_retriggered s) (with_br_set a)) _ (refl, refl)
    (if_served (number == 46) a (Stops 1 (with_br_set a)) _ (refl, refl) (time_tck_same s a))))))))

-- nor does its result
pub given_same : (to : Option Binding) (value : ℕ) (a b : Activation) (m : Areas) → Same a b
    → Same a (result_given to value b m).activation
given_same None value a b m same = same
given_same (Some to) value a b m same = same

serves_to_stands : (mode : Mode) (sv : ServiceResult) (to : Option Binding) (a : Activation)
    (below new : List Activation) (m m' : Areas) (s s' : Scheduler) → SameServed a sv
    → ServesTo sv to below new m m' s s' None → IsActivationStack mode (a ∷ below) → IsActivationStack mode new
unfolding SameServed
serves_to_stands mode (Returns r) to a below new m m' s s' same serves standing =
    subst (λ acts. IsActivationStack mode acts) (sym serves.0)
    (same_stack mode a (result_given to r.value r.activation m).activation below
    (given_same to r.value a r.activation m same) standing)
serves_to_stands mode (Passes sched b) to a below new m m' s s' same serves standing =
    subst (λ acts. IsActivationStack mode acts) (sym serves.0) (same_stack mode a b below same standing)
serves_to_stands mode (Stops cause b) to a below new m m' s s' same serves standing = absurd serves

pub call_stands : (mode : Mode) (number : ℕ) (inputs : List ℕ) (to : Option Binding)
    (old new : List Activation) (m m' : Areas) (s s' : Scheduler)
    → ServesRunning number inputs to old new m m' s s' None → IsActivationStack mode old
    → IsActivationStack mode new
call_stands mode number inputs to [] new m m' s s' serves standing =
    subst (λ acts. IsActivationStack mode acts) (sym serves.0) standing
call_stands mode number inputs to (a ∷ below) new m m' s s' serves standing =
    serves_to_stands mode (system_function_served number inputs s a) to a below new m m' s s'
    (served_same number inputs s a) serves standing

-- what a call comes to
goes_to : (at : Option Spot) (sv : ServiceResult) (to : Option Binding) (below new : List Activation)
    (s : State) (m' : Areas) (sched : Scheduler)
    → ServesTo sv to below new s.store.memory m' s.sched sched None
    → after_service at sv to below s
    ≡ record s { store = with_memory m' s.store; activations = new; sched = sched }
goes_to at (Returns r) to below new s m' sched serves = rw (serves.0, serves.1, serves.2) refl
goes_to at (Passes next a) to below new s m' sched serves = rw (serves.0, serves.1, serves.2) refl
goes_to at (Stops cause a) to below new s m' sched serves = absurd serves

goes_from : (code : Code) (number : ℕ) (inputs : List ℕ) (to : Option Binding) (position : At)
    (old new : List Activation) (s : State) (m' : Areas) (sched : Scheduler)
    → s.activations ≡ old
    → ServesRunning number inputs to old new s.store.memory m' s.sched sched None
    → call_finished code number inputs to position old s
    ≡ record s { store = with_memory m' s.store; activations = new; sched = sched }
goes_from code number inputs to position [] new s m' sched were serves =
    ap (λ (acts : List Activation). record s { activations = acts }) were
    ∙ rw (serves.0, serves.1, serves.2) refl
goes_from code number inputs to position (a ∷ below) new s m' sched were serves =
    goes_to (statement_spot code position.block position.at) (system_function_served number inputs s.sched a) to below new s m'
    sched serves

pub call_goes : (code : Code) (number : ℕ) (inputs : List ℕ) (to : Option Binding)
    (position : At) (new : List Activation) (s : State) (m' : Areas) (sched : Scheduler)
    → ServesRunning number inputs to s.activations new s.store.memory m' s.sched sched None
    → call_finished code number inputs to position s.activations s
    ≡ record s { store = with_memory m' s.store; activations = new; sched = sched }
call_goes code number inputs to position new s m' sched serves =
    goes_from code number inputs to position s.activations new s m' sched refl serves

halts_to : (at : Option Spot) (sv : ServiceResult) (to : Option Binding) (below new : List Activation)
    (s : State) (m' : Areas) (sched : Scheduler) (cause : ℕ)
    → ServesTo sv to below new s.store.memory m' s.sched sched (Some cause)
    → after_service at sv to below s
    ≡ stop_entered_at at cause (record s { store = with_memory m' s.store; activations = new; sched = sched })
halts_to at (Returns r) to below new s m' sched cause serves = absurd serves
halts_to at (Passes next a) to below new s m' sched cause serves = absurd serves
halts_to at (Stops why a) to below new s m' sched cause serves =
    rw (serves.0, serves.1, serves.2) refl

halts_from : (code : Code) (number : ℕ) (inputs : List ℕ) (to : Option Binding) (position : At)
    (old new : List Activation) (s : State) (m' : Areas) (sched : Scheduler) (cause : ℕ)
    → ServesRunning number inputs to old new s.store.memory m' s.sched sched (Some cause)
    → call_finished code number inputs to position old s
    ≡ stop_entered_at (statement_spot code position.block position.at) cause
    (record s { store = with_memory m' s.store; activations = new; sched = sched })
halts_from code number inputs to position [] new s m' sched cause serves = absurd serves
halts_from code number inputs to position (a ∷ below) new s m' sched cause serves =
    halts_to (statement_spot code position.block position.at) (system_function_served number inputs s.sched a) to below new s m'
    sched cause serves

pub call_halts : (code : Code) (number : ℕ) (inputs : List ℕ) (to : Option Binding)
    (position : At) (new : List Activation) (s : State) (m' : Areas) (sched : Scheduler) (cause : ℕ)
    → ServesRunning number inputs to s.activations new s.store.memory m' s.sched sched (Some cause)
    → call_finished code number inputs to position s.activations s
    ≡ stop_entered_at (statement_spot code position.block position.at) cause
    (record s { store = with_memory m' s.store; activations = new; sched = sched })
call_halts code number inputs to position new s m' sched cause serves =
    halts_from code number inputs to position s.activations new s m' sched cause serves

-- the registers that a call comes to are those of the running activation
abbrev regs_of : List Activation → Regs → Regs
regs_of activations regs =
    unwrap_or (option_map (λ (a : Activation). a.running.regs) (running_of activations)) regs

-- a write changes none of them
put_regs : (is_in_locals : Bool) (locals : Option LocalData) (memory : Option Areas) (error : ℕ)
    (c : LocalMemory)
    → (local_memory_or c
    (ok_or
    (if is_in_locals
    then option_map (λ (l : LocalData). record { local = with_locals c.local l; memory = c.memory }) locals
    else option_map (λ (m : Areas). record { local = c.local; memory = m }) memory)
    error)).local.regs
    ≡ c.local.regs
put_regs true None memory error c = refl
put_regs true (Some l) memory error c = refl
put_regs false locals None error c = refl
put_regs false locals (Some m) error c = refl

bound_regs : (to : Binding) (value : ℕ) (c : LocalMemory) → (with_ret_val to value c).local.regs ≡ c.local.regs
unfolding number_written_at
bound_regs (binding.AtPlace place width frame) value c =
    put_regs (is_area_l place.area)
    (local_written c.local.locals frame place.byte place.bit width (value % 2 ^ bit_count width))
    (number_written c.memory place width (value % 2 ^ bit_count width)) _ c
bound_regs (binding.Constant n) value c = refl
bound_regs binding.Unsupplied value c = refl

given_regs : (to : Option Binding) (value : ℕ) (a : Activation) (m : Areas)
    → (result_given to value a m).activation.running.regs ≡ a.running.regs
given_regs None value a m = refl
given_regs (Some to) value a m = bound_regs to value (local_memory_of a.running m)

regs_to : (sv : ServiceResult) (to : Option Binding) (below new : List Activation) (m m' : Areas)
    (s s' : Scheduler) (answer : Option ℕ) (regs : Regs) → ServesTo sv to below new m m' s s' answer
    → regs_of new regs ≡ regs_served sv
regs_to (Returns r) to below new m m' s s' None regs serves =
    ap (λ (acts : List Activation). regs_of acts regs) serves.0
    ∙ given_regs to r.value r.activation m
regs_to (Passes sched a) to below new m m' s s' None regs serves =
    ap (λ (acts : List Activation). regs_of acts regs) serves.0
regs_to (Stops cause a) to below new m m' s s' (Some why) regs serves =
    ap (λ (acts : List Activation). regs_of acts regs) serves.3
regs_to (Returns r) to below new m m' s s' (Some why) regs serves = absurd serves
regs_to (Passes sched a) to below new m m' s s' (Some why) regs serves = absurd serves
regs_to (Stops cause a) to below new m m' s s' None regs serves = absurd serves

pub call_regs : (number : ℕ) (inputs : List ℕ) (to : Option Binding) (old new : List Activation)
    (m m' : Areas) (s s' : Scheduler) (answer : Option ℕ) (regs : Regs)
    → ServesRunning number inputs to old new m m' s s' answer
    → regs_of new regs ≡ regs_called number inputs s old regs
call_regs number inputs to [] new m m' s s' None regs serves =
    ap (λ (acts : List Activation). regs_of acts regs) serves.0
call_regs number inputs to [] new m m' s s' (Some why) regs serves = absurd serves
call_regs number inputs to (a ∷ below) new m m' s s' answer regs serves =
    regs_to (system_function_served number inputs s a) to below new m m' s s' answer regs serves
