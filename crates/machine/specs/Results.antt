-- RET_VAL of a system function: written where it was bound.
use Rattle.std.specs.Prelude.{◌≡◌, ℕ}
use Rattle.plc_mem.specs.Areas.{Areas}
use Rattle.frames.specs.declared.Activation.{Activation}
use Rattle.frames.specs.declared.bindings.Binding.{Binding}
use Rattle.frames.specs.declared.bindings.Binding.TheVariants as binding
use Rattle.machine.specs.ExecState.{LocalMemory, local_memory_of, with_local}
use Rattle.machine.specs.Copies.{number_stored}

-- a running block and memory with the value of RET_VAL at the place bound to it, in the width of
-- the place; nothing changes where nothing is bound, or no such place exists
abbrev pub with_ret_val : Binding → ℕ → LocalMemory → LocalMemory
with_ret_val (binding.AtPlace place width frame) value c =
    number_stored (record { place = place; width = width; frame = frame }) value c
with_ret_val _ value c = c

-- an activation and memory have this local data and memory, and nothing else has changed
abbrev pub HoldsLocalMemory : LocalMemory → (old new : Activation) (m' : Areas) → Type 0
HoldsLocalMemory c old new m' =
    (new ≡ record old { running = with_local old.running c.local }) × (m' ≡ c.memory)

-- a value is written where RET_VAL was bound; without such a place nothing changes
abbrev pub GivesResult : Binding → ℕ → (old new : Activation) (m m' : Areas) → Type 0
GivesResult to value old new m m' =
    HoldsLocalMemory (with_ret_val to value (local_memory_of old.running m)) old new m'
