-- The parameters of a function block: copied into its instance at the call, and out of it at the
-- return, one after another by rising index. What is copied exists where the activation fits.
use Rattle.std.specs.Prelude.{ℕ, ◌+◌, ◌%◌, ◌^◌, ◌==◌, Bool, ◌||◌, List, [], ◌∷◌, slice_get, Option, Some, Result, Ok, Err, if◌then◌else◌, unwrap_or}
use Rattle.plc_base.specs.declared.Area.TheVariants as areas
use Rattle.plc_base.specs.Widths.{bit_count}
use Rattle.frames.specs.declared.bindings.Binding.{Binding}
use Rattle.frames.specs.declared.bindings.Binding.TheVariants as binding
use Rattle.flat_code.specs.declared.programs.Param.{Param}
use Rattle.flat_code.specs.Records.{section_in, section_in_out, section_out}
use Rattle.machine.specs.declared.places.Location.{Location}
use Rattle.machine.specs.ExecState.{LocalMemory}
use Rattle.machine.specs.Places.{location_at, location_number}
use Rattle.machine.specs.Values.{number_written_at}

-- an IN or IN_OUT parameter: copied into the instance by the call
abbrev pub is_copied_in : Param → Bool
is_copied_in p = p.section == section_in || p.section == section_in_out

-- an OUT or IN_OUT parameter: copied out of the instance by the return
abbrev pub is_copied_out : Param → Bool
is_copied_out p = p.section == section_out || p.section == section_in_out

-- the place of a parameter in an instance
abbrev pub instance_parameter_location : Param → (instance : ℕ) → Location
instance_parameter_location p instance = location_at areas.Db instance p.byte p.bit p.width 0

-- what writing to a place leaves; where the place doesn't exist, all is as before
abbrev pub local_memory_or : LocalMemory → Result LocalMemory ℕ → LocalMemory
local_memory_or before (Ok after) = after
local_memory_or before (Err e) = before

-- a number stored at a place, cut to its width; nothing changes where the place isn't there
abbrev pub number_stored : Location → ℕ → LocalMemory → LocalMemory
number_stored to n c =
    local_memory_or c (number_written_at to (n % 2 ^ bit_count to.width) c.local c.memory)

-- the number at one place copied to another; 0 where the first place isn't there
unfoldable pub number_copied : (from to : Location) → LocalMemory → LocalMemory
number_copied from to c =
    number_stored to (unwrap_or (location_number from c.local.locals c.memory) 0) c

-- what was passed for a parameter, copied to a place; where the parameter isn't supplied, the place
-- keeps its value
unfoldable pub actual_copied_to : Option Binding → Location → LocalMemory → LocalMemory
actual_copied_to (Some (binding.AtPlace place width frame)) to c =
    number_copied (record { place = place; width = width; frame = frame }) to c
actual_copied_to (Some (binding.Constant value)) to c = number_stored to value c
actual_copied_to _ to c = c

-- the number at a place, copied to the place that was passed for a parameter
unfoldable pub copied_to_actual : Location → Option Binding → LocalMemory → LocalMemory
copied_to_actual from (Some (binding.AtPlace place width frame)) c =
    number_copied from (record { place = place; width = width; frame = frame }) c
copied_to_actual from _ c = c

-- a parameter copied into the instance: an IN or IN_OUT parameter gets there what was passed; an
-- OUT parameter keeps its value
abbrev pub param_in : Param → Option Binding → (instance : ℕ) → LocalMemory → LocalMemory
param_in p b instance c =
    if is_copied_in p then actual_copied_to b (instance_parameter_location p instance) c else c

-- a parameter copied out of the instance: an OUT or IN_OUT parameter goes to the place that was
-- bound to it; where none was, it goes nowhere
abbrev pub param_out : Param → Option Binding → (instance : ℕ) → LocalMemory → LocalMemory
param_out p b instance c =
    if is_copied_out p then copied_to_actual (instance_parameter_location p instance) b c else c

-- the parameters from an index on copied into the instance; each copy sees what those before it
-- wrote
abbrev pub params_copied_in :
    List Param → (index : ℕ) → List Binding → (instance : ℕ) → LocalMemory → LocalMemory
params_copied_in [] index bindings instance c = c
params_copied_in (p ∷ rest) index bindings instance c =
    params_copied_in rest (index + 1) bindings instance
    (param_in p (slice_get bindings index) instance c)

-- the parameters from an index on copied out of the instance; of two bound to one place the later
-- one stays there
abbrev pub params_out :
    List Param → (index : ℕ) → List Binding → (instance : ℕ) → LocalMemory → LocalMemory
params_out [] index bindings instance c = c
params_out (p ∷ rest) index bindings instance c =
    params_out rest (index + 1) bindings instance
    (param_out p (slice_get bindings index) instance c)
