-- What an entry shows.
use Rattle.std.specs.Prelude.{ℕ, ◌+◌, ◌==◌, Bool, true, false, List, [], Option, Some, None, if◌then◌else◌}
use Rattle.std.specs.List.{filter_map, range_with_len}
use Rattle.plc_base.specs.AreaBytes.{upper_size, upper_start}
use Rattle.plc_base.specs.declared.Mode.{Mode}
use Rattle.plc_base.specs.declared.Mode.TheVariants.{Run, Startup, Stop}
use Rattle.plc_mem.specs.Areas.{PeripheralBytes}
use Rattle.plc_mem.specs.Bits.{peripheral_byte}
use Rattle.machine.specs.Code.{Code}
use Rattle.monitor.specs.declared.MonRecord.{MonRecord}
use Rattle.var_access.specs.declared.What.{What}
use Rattle.controller.specs.Monitoring.{monitoring_record}
use Rattle.controller.specs.State.{State}
use Rattle.controller.specs.declared.observing.Observed.{Observed}

-- a byte that exists, with its new value, unless that is the old one
abbrev pub if_changed : (byte : ℕ) (before after : Option ℕ) → Option (ℕ × ℕ)
if_changed byte before None = None
if_changed byte None (Some new) = Some (byte, new)
if_changed byte (Some old) (Some new) = if old == new then None else Some (byte, new)

-- a byte of these peripheral outputs, if it changed
abbrev pub changed_output : (before after : PeripheralBytes) (byte : ℕ) → Option (ℕ × ℕ)
changed_output before after byte =
    if_changed byte (peripheral_byte before byte) (peripheral_byte after byte)

-- the peripheral output bytes that changed, by rising number, with their new values; the greatest number
-- is 767
unfoldable pub changed_outputs : (before after : PeripheralBytes) → List (ℕ × ℕ)
changed_outputs before after =
    filter_map (changed_output before after) (range_with_len 0 (upper_start + upper_size))

-- the mode is the same before and after: one STOP is the same as another, since no entry changes
-- cause and spot
abbrev pub is_same_mode : Mode → Mode → Bool
is_same_mode Run Run = true
is_same_mode Startup Startup = true
is_same_mode (Stop cause at) (Stop cause' at') = true
is_same_mode before after = false

-- the mode after an entry, where the entry changed it
abbrev pub changed_mode : (before after : Mode) → Option Mode
changed_mode before after = if is_same_mode before after then None else Some after

-- what an entry shows where nothing is recorded and nothing changes
abbrev pub nothing_shown : Observed
nothing_shown = record { mon = None; outputs = []; mode = None }

-- a monitoring record, and the changed peripheral outputs and the new mode between two moments
abbrev pub observed_changes :
    Option MonRecord → (outputs : PeripheralBytes) → Mode → (after : State) → Observed
observed_changes mon outputs mode after = record {
  mon = mon;
  outputs = changed_outputs outputs after.store.memory.peripheral_outputs;
  mode = changed_mode mode after.mode;
}

-- what an entry shows: its monitoring record, and what changed between the states before and after it
unfoldable pub entry_shown : Code → (before : State) → What → (after : State) → Observed
entry_shown code before what after =
    observed_changes (monitoring_record code before what)
    before.store.memory.peripheral_outputs before.mode after

-- what is kept from one entry to the next to find what an entry shows
pub record WatchedState : Type 0 where
  -- the peripheral outputs after the last entry
  pub outputs : PeripheralBytes
  -- the operating mode after the last entry
  pub mode : Mode
  -- what the last entry showed
  pub seen : Observed

-- what is kept of a state, with what was shown last
abbrev pub watched_state : State → (seen : Observed) → WatchedState
watched_state s seen = record {
  outputs = s.store.memory.peripheral_outputs;
  mode = s.mode;
  seen = seen;
}

-- what is watched after one more entry: it shows its monitoring record and what has changed since the last
-- entry, and the state after it is kept
abbrev pub next_watched_state : WatchedState → Option MonRecord → (after : State) → WatchedState
next_watched_state w mon after = watched_state after (observed_changes mon w.outputs w.mode after)
