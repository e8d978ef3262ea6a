-- Calls of system functions: what they are given, and where their result goes.
-- Siemens, System Software: System and Standard Functions.
use Rattle.std.specs.Prelude.{ℕ, ◌+◌, ◌==◌, List, [], ◌∷◌, map, slice_get, Option, Some, None, Result, Ok, if◌then◌else◌, unwrap_or}
use Rattle.std.specs.Option.{option_map}
use Rattle.plc_mem.specs.Areas.{Areas}
use Rattle.frames.specs.declared.Activation.{Activation}
use Rattle.frames.specs.declared.bindings.Binding.{Binding}
use Rattle.frames.specs.declared.bindings.Binding.TheVariants as binding
use Rattle.flat_code.specs.declared.programs.Param.{Param}
use Rattle.flat_code.specs.Blocks.{system_params}
use Rattle.flat_code.specs.Image.{param_of_record}
use Rattle.flat_code.specs.Instr.{Passing}
use Rattle.flat_code.specs.Records.{section_in, section_out}
use Rattle.machine.specs.ExecState.{Local, local_of, then_ok}
use Rattle.machine.specs.Places.{location_number}
use Rattle.machine.specs.Bindings.{param_bindings}

-- the parameters of a system function: IN by their order, then RET_VAL if it has one
abbrev pub system_function : ℕ → Option (List Param)
system_function number = option_map (map param_of_record) (system_params number)

-- the arguments of a system function: the numbers of its IN parameters, and what RET_VAL is bound
-- to
pub record SystemCallArguments : Type 0 where
  -- the numbers of the IN parameters, in their order
  pub inputs : List ℕ
  -- what RET_VAL stands for, if the system function has it
  pub result : Option Binding

-- the number of an IN parameter of a system function: the constant, or what stands at the place,
-- which was tested when it was bound
abbrev pub input_of : Option Binding → Local → Areas → ℕ
input_of (Some (binding.AtPlace place width frame)) s m =
    unwrap_or
    (location_number (record { place = place; width = width; frame = frame }) s.locals m) 0
input_of (Some (binding.Constant value)) s m = value
input_of _ s m = 0

-- how many of these parameters are IN parameters
abbrev pub count_inputs : List Param → ℕ
count_inputs [] = 0
count_inputs (p ∷ rest) = (if p.section == section_in then 1 else 0) + count_inputs rest

-- the numbers of the IN parameters from an index on, in their order
abbrev pub inputs_from : List Param → (index : ℕ) → List Binding → Local → Areas → List ℕ
inputs_from [] index bindings s m = []
inputs_from (p ∷ rest) index bindings s m =
    if p.section == section_in
    then input_of (slice_get bindings index) s m ∷ inputs_from rest (index + 1) bindings s m
    else inputs_from rest (index + 1) bindings s m

-- what the first OUT parameter from an index on stands for: RET_VAL; None without one
abbrev pub result_from : List Param → (index : ℕ) → List Binding → Option Binding
result_from [] index bindings = None
result_from (p ∷ rest) index bindings =
    if p.section == section_out
    then slice_get bindings index
    else result_from rest (index + 1) bindings

-- the arguments of a system call: the numbers of the IN parameters as they are now, and what
-- RET_VAL stands for
abbrev pub system_call_arguments : List Param → List Binding → Local → Areas → SystemCallArguments
system_call_arguments params bindings s m = record {
  inputs = inputs_from params 0 bindings s m;
  result = result_from params 0 bindings;
}

-- the arguments of a system call of an activation: the numbers of the IN parameters as they are
-- now, and what RET_VAL stands for
abbrev pub arguments_of_activation :
    List Param → List Binding → Activation → Areas → SystemCallArguments
arguments_of_activation params bindings a m =
    system_call_arguments params bindings (local_of a.running) m

-- the arguments of a CALL of a system function; its parameters are bound as in each call, and the
-- error is that of the first that can't be bound
unfoldable pub system_call :
    List Param → List Passing → Local → Areas → Result SystemCallArguments ℕ
system_call params passings s m =
    then_ok (param_bindings params passings s m)
    (λ bindings. Ok (system_call_arguments params bindings s m))
