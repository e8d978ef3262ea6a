-- What one entry of a history does to the state, over any program.
use Rattle.std.specs.Prelude.{ℕ, ◌+◌, unwrap_or, if◌then◌else◌}
use Rattle.plc_mem.specs.Peripherals.{with_input}
use Rattle.machine.specs.Code.{Code}
use Rattle.machine.specs.Statement.{GlobalStore}
use Rattle.var_access.specs.declared.What.{What}
use Rattle.var_access.specs.declared.What.TheVariants.{Step, Input, Arrive, Tick, Ask}
use Rattle.controller.specs.Asking.{request_effect}
use Rattle.controller.specs.Requests.{arrival_served}
use Rattle.controller.specs.Settling.{after_settling}
use Rattle.controller.specs.State.{State, is_stop}
use Rattle.controller.specs.Stepping.{after_step}
use Rattle.controller.specs.Ticking.{time_passed}

-- the state with one more entry counted
abbrev pub entry_counted : State → State
entry_counted s = record s { entries = s.entries + 1 }

-- the global store in which a byte of the peripheral inputs has a new value; it stays where there
-- is no such byte
abbrev pub input_set : (byte value : ℕ) → GlobalStore → GlobalStore
input_set byte value w =
    record w { memory = unwrap_or (with_input w.memory byte value) w.memory }

-- the state after what an entry does, by its kind, before settling: an input takes its value in
-- every mode; a step, an arrival and a tick do nothing in STOP
abbrev pub entry_effect : Code → What → State → State
entry_effect code Step s = if is_stop s.mode then s else after_step code s
entry_effect code (Input byte value) s = record s { store = input_set byte value s.store }
entry_effect code (Arrive ob value) s = arrival_served code ob value s
entry_effect code (Tick ms) s = time_passed code ms s
entry_effect code (Ask request) s = request_effect code request s

-- the state after a whole entry: the entry is counted, has its effect, and settling follows
unfoldable pub state_after : Code → What → State → State
state_after code what s = after_settling code (entry_effect code what (entry_counted s))
