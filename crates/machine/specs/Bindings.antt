-- CALL: what each parameter of the called block stands for, fixed when it is called.
use Rattle.std.specs.Prelude.{ℕ, ◌==◌, List, [], ◌∷◌, length, replicate, slice_get, Option, Some, None, Result, Ok, Err, if◌then◌else◌}
use Rattle.plc_base.specs.ErrorCodes as errors
use Rattle.plc_base.specs.declared.Area.TheVariants as areas
use Rattle.plc_mem.specs.Areas.{Areas}
use Rattle.frames.specs.ParameterBindings.{binding_set}
use Rattle.frames.specs.declared.bindings.Binding.{Binding}
use Rattle.frames.specs.declared.bindings.Binding.TheVariants as binding
use Rattle.flat_code.specs.declared.operands.Passed.{Passed}
use Rattle.flat_code.specs.declared.operands.Passed.TheVariants as passed
use Rattle.flat_code.specs.declared.programs.Param.{Param}
use Rattle.flat_code.specs.Instr.{Passing}
use Rattle.flat_code.specs.Records.{section_out}
use Rattle.machine.specs.declared.places.Access.{Access}
use Rattle.machine.specs.declared.places.Access.TheVariants.{Reading, Writing}
use Rattle.machine.specs.declared.places.Location.{Location}
use Rattle.machine.specs.ExecState.{Local, then_ok}
use Rattle.machine.specs.Places.{location_at, area_location, location_number, error_of_absent_place, no_operand}
use Rattle.machine.specs.DataBlocks.{is_block_loaded}

-- with which errors the place bound for a parameter fails: for OUT with those of writing (23, 43),
-- else with those of reading (22, 42)
abbrev pub param_access : Param → Access
param_access p = if p.section == section_out then Writing else Reading

-- a parameter bound to a place if the place exists; else the error of the place
abbrev pub binding_if_there : Access → Location → Option ℕ → Result Binding ℕ
binding_if_there access at None = Err (error_of_absent_place access at.place.area)
binding_if_there access at (Some n) = Ok (binding.AtPlace at.place at.width at.frame)

-- a parameter bound to a place, tested as one that is read, for OUT too; error 22 or 23 where it
-- doesn't exist, in the peripheral area 42 or 43
unfoldable pub bound_place : Access → Location → Local → Areas → Result Binding ℕ
bound_place access at s m = binding_if_there access at (location_number at s.locals m)

-- a parameter that is passed on stands for what it stands for in the caller
abbrev pub binding_of_caller : Option Binding → Result Binding ℕ
binding_of_caller (Some b) = Ok b
binding_of_caller None = Err no_operand

-- what a passing binds: a constant by its value, a place as it is at the call. A place in a data
-- block that is named opens nothing: error 3A where the block isn't loaded
unfoldable pub bound_actual : Access → Passed → Local → Areas → Result Binding ℕ
bound_actual access (passed.Literal value) s m = Ok (binding.Constant value)
bound_actual access (passed.Direct area width byte bit) s m =
    then_ok (area_location access area byte bit width s) (λ at. bound_place access at s m)
bound_actual access (passed.Parameter index width) s m =
    binding_of_caller (slice_get s.inner.bindings index)
bound_actual access (passed.InBlock number area width byte bit) s m =
    if is_block_loaded number m
    then bound_place access (location_at areas.Db number byte bit width 0) s m
    else Err errors.no_data_block

-- what is passed, bound for a parameter of the called block; one that the block lacks is passed in
-- no program that is loaded
abbrev pub binding_for_param : Option Param → Passed → Local → Areas → Result Binding ℕ
binding_for_param (Some p) actual s m = bound_actual (param_access p) actual s m
binding_for_param None actual s m = Err no_operand

-- the bindings after each passing, one after another, has set what its parameter stands for
abbrev pub bound_params :
    List Param → List Passing → List Binding → Local → Areas → Result (List Binding) ℕ
bound_params params [] bindings s m = Ok bindings
bound_params params (passing ∷ rest) bindings s m =
    then_ok (binding_for_param (slice_get params passing.index) passing.actual s m) (λ b.
    bound_params params rest (binding_set bindings passing.index b) s m)

-- the parameters of a block before any is supplied
abbrev pub no_bindings : List Param → List Binding
no_bindings params = replicate (length params) binding.Unsupplied

-- what the parameters of a block stand for
unfoldable pub param_bindings : List Param → List Passing → Local → Areas → Result (List Binding) ℕ
param_bindings params passings s m = bound_params params passings (no_bindings params) s m
