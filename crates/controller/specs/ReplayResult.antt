-- What a controller's program and history come to.
use Rattle.std.specs.Prelude.{ℕ, List, map}
use Rattle.std.specs.FinMap as finmap
use Rattle.machine.specs.Flat.{code_of}
use Rattle.var_access.specs.declared.Entry.{Entry}
use Rattle.var_access.specs.declared.What.{What}
use Rattle.controller.specs.Replay.{EntryResult, entry_result, last_observed, replay}
use Rattle.controller.specs.State.{State}
use Rattle.controller.specs.declared.observing.Observed.{Observed}
use Rattle.controller.specs.Recording.{Recording}

-- what the entries of a history do, whoever makes them
abbrev pub entry_events : List Entry → List What
entry_events history = map (λ (e : Entry). e.what) history

-- the state of the CPU after all entries of a recording
abbrev pub final_state : Recording → State
final_state r = replay r.profile (code_of r.program) (entry_events r.history)

-- the result of one more entry behind the history of a recording
abbrev pub next_result : Recording → Entry → EntryResult
next_result r e = entry_result (code_of r.program) (final_state r) e.what

-- what the last entry of a recording showed; nothing before the first entry
abbrev pub last_shown : Recording → Observed
last_shown r = last_observed r.profile (code_of r.program) (entry_events r.history)

-- the data blocks of a recording by rising number, with their bytes after all entries
abbrev pub final_data_blocks : Recording → List (ℕ × List ℕ)
final_data_blocks r = finmap.entries (final_state r).store.memory.data_blocks

-- the number of a data block, with its bytes
abbrev pub number_with_bytes : (number : ℕ) → (bytes : List ℕ) → ℕ × List ℕ
number_with_bytes number bytes = (number, bytes)
