-- The same program at other positions: a run in one code, and in a code that follows it.
use Rattle.std.specs.Prelude.{◌≡◌, ℕ, List, map}
use Rattle.plc_base.specs.declared.Profile.{Profile}
use Rattle.plc_base.specs.declared.BlockId.{BlockId}
use Rattle.machine.specs.Code.{Code}
use Rattle.machine.specs.MovedCode.{FollowsCode, moved_activation}
use Rattle.var_access.specs.declared.What.{What}
use Rattle.controller.specs.Replay.{EntryResult, entry_result, replay}
use Rattle.controller.specs.State.{State}

-- the state with each frame at the position that the function gives for its own; nothing else has
-- a position
abbrev pub moved_state : (BlockId → ℕ → ℕ) → State → State
moved_state f s = record s { activations = map (moved_activation f) s.activations }

-- the result of an entry with its frames at other positions; the answer and what was shown are the same
abbrev pub moved_result : (BlockId → ℕ → ℕ) → EntryResult → EntryResult
moved_result f h = record h { state = moved_state f h.state }

-- law: an entry does the same in a code that follows another at other positions
abbrev pub EntriesMove : Type 0
EntriesMove =
    (f : BlockId → ℕ → ℕ) (c d : Code) (s : State) (what : What) → FollowsCode f c d
    → entry_result d (moved_state f s) what ≡ moved_result f (entry_result c s what)

-- law: a history does the same in a code that follows another at other positions: the state after
-- it is the same with its positions moved, so mode, memory, scheduler and diagnostics are equal
abbrev pub HistoriesMove : Type 0
HistoriesMove =
    (profile : Profile) (f : BlockId → ℕ → ℕ) (c d : Code) (history : List What) → FollowsCode f c d
    → replay profile d history ≡ moved_state f (replay profile c history)
