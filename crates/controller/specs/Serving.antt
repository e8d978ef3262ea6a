-- Calls of system functions, which do their work in the same statement.
use Rattle.std.specs.Prelude.{ℕ, ◌==◌, List, ◌∷◌, slice_index_or, Option, Some, None, if◌then◌else◌}
use Rattle.plc_base.specs.StopCauses as causes
use Rattle.plc_base.specs.declared.Spot.{Spot}
use Rattle.plc_mem.specs.Areas.{Areas}
use Rattle.frames.specs.declared.Activation.{Activation}
use Rattle.frames.specs.declared.bindings.Binding.{Binding}
use Rattle.machine.specs.ExecState.{local_memory_of}
use Rattle.machine.specs.Results.{with_ret_val}
use Rattle.machine.specs.Returning.{ReturnState, return_state_of}
use Rattle.machine.specs.Statement.{with_memory}
use Rattle.machine.specs.SystemCalls.{SystemCallArguments}
use Rattle.ob_sched.specs.Scheduler.{Scheduler, cycle_retriggered}
use Rattle.sys_funcs.specs.Functions.{dis_airt, en_airt, dis_irt, en_irt, srt_dint, can_dint, time_tck}
use Rattle.sys_funcs.specs.Results.{SystemFunctionResult, with_br_set}
use Rattle.controller.specs.State.{State}
use Rattle.controller.specs.Stopping.{stop_entered_at}

-- what a system function leaves of the scheduler and the running activation
pub data ServiceResult : Type 0 where
  -- the system function has a return value
  Returns : (r : SystemFunctionResult) → ServiceResult
  -- the system function has no return value: SFC 43, RE_TRIGR
  Passes : (sched : Scheduler) (a : Activation) → ServiceResult
  -- the system function stops the controller by a cause: SFC 46, STP. The scheduler stays
  Stops : (cause : ℕ) (a : Activation) → ServiceResult

-- the number of an IN parameter by its place, counted from 0; 0 where there is none
abbrev pub in_parameter : (place : ℕ) → List ℕ → ℕ
in_parameter place inputs = slice_index_or inputs place 0

-- what a system function does, by its number: 32 SRT_DINT, 33 CAN_DINT, 39 DIS_IRT, 40 EN_IRT, 41
-- DIS_AIRT, 42 EN_AIRT, 43 RE_TRIGR, 46 STP (stop cause 1); any other is 64 TIME_TCK
unfoldable pub system_function_served :
    (number : ℕ) → (inputs : List ℕ) → Scheduler → Activation → ServiceResult
system_function_served number inputs s a =
    if number == 32 then
    Returns (srt_dint s a (in_parameter 0 inputs) (in_parameter 1 inputs) (in_parameter 2 inputs))
    else if number == 33 then Returns (can_dint s a (in_parameter 0 inputs))
    else if number == 39 then Returns (dis_irt s a (in_parameter 0 inputs) (in_parameter 1 inputs))
    else if number == 40 then Returns (en_irt s a (in_parameter 0 inputs) (in_parameter 1 inputs))
    else if number == 41 then Returns (dis_airt s a)
    else if number == 42 then Returns (en_airt s a)
    else if number == 43 then Passes (cycle_retriggered s) (with_br_set a)
    else if number == 46 then Stops causes.by_program (with_br_set a)
    else Returns (time_tck s a)

-- RET_VAL goes where it is bound; where it isn't, nothing changes
abbrev pub result_given : Option Binding → (value : ℕ) → Activation → Areas → ReturnState
result_given None value a m = record { activation = a; memory = m }
result_given (Some to) value a m =
    return_state_of a (with_ret_val to value (local_memory_of a.running m))

-- the running activation goes on behind a system function, with another scheduler and another memory
abbrev pub resume_with : ReturnState → Scheduler → (below : List Activation) → State → State
resume_with r sched below s =
    record s {
      store = with_memory r.memory s.store;
      sched = sched;
      activations = r.activation ∷ below;
    }

-- after the system function: RET_VAL is given, if there is one, and the activation goes on; a stop
-- has the spot of the call
abbrev pub after_service :
    (call : Option Spot) → ServiceResult → Option Binding → (below : List Activation)
    → State → State
after_service call (Returns r) to below s =
    resume_with (result_given to r.value r.activation s.store.memory) r.sched below s
after_service call (Passes sched a) to below s =
    resume_with (record { activation = a; memory = s.store.memory }) sched below s
after_service call (Stops cause a) to below s = stop_entered_at call cause s

-- a call of a system function: it does its work in the same step, and the running activation, which
-- has gone on behind the call as `a`, goes on with its result
abbrev pub system_call_served :
    (call : Option Spot) → (number : ℕ) → SystemCallArguments → (a : Activation)
    (below : List Activation) → State → State
system_call_served call number given a below s =
    after_service call (system_function_served number given.inputs s.sched a) given.result below s
