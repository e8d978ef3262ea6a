-- The text of a run: what each entry showed, from state to state, and how the controller stands at
-- the end.
use Rattle.std.specs.Prelude.{ℕ, ◌+◌, ◌*◌, List, [], ◌∷◌, ◌++◌, length, take, drop, Option, Some, None}
use Rattle.std.specs.FinMap as finmap
use Rattle.std.specs.Int.{div_ceil}
use Rattle.std.specs.List.{flat_map, range_with_len}
use Rattle.plc_base.specs.declared.Mode.{Mode}
use Rattle.plc_base.specs.declared.Profile.{Profile}
use Rattle.monitor.specs.declared.MonRecord.{MonRecord}
use Rattle.var_access.specs.declared.Entry.{Entry}
use Rattle.var_access.specs.declared.Reply.{Reply}
use Rattle.var_access.specs.declared.What.{What}
use Rattle.var_access.specs.declared.What.TheVariants.{Ask}
use Rattle.machine.specs.Code.{Code}
use Rattle.machine.specs.Statement.{GlobalStore}
use Rattle.controller.specs.declared.Observed.{Observed}
use Rattle.controller.specs.Replay.{EntryResult, entry_result, replay}
use Rattle.controller.specs.Start.{initial_state}
use Rattle.controller.specs.State.{State}
use Rattle.controller.specs.ReplayResult.{entry_events}
use Rattle.monitor.specs.LineText.{end_text, mode_text, mon_text, output_text, row_text}
use Rattle.event_text.specs.Replies.{reply_text}

-- the line of the mode that entry n began, if it began one
abbrev pub changed_mode_text : ℕ → Option Mode → List ℕ
changed_mode_text n None = []
changed_mode_text n (Some mode) = mode_text n mode

-- the line of the record of the monitored statement, if entry n made one
abbrev pub monitored_text : ℕ → Option MonRecord → List ℕ
monitored_text n None = []
monitored_text n (Some one) = mon_text n one

-- what entry n showed: the monitored statement, the outputs that changed, the mode that began
unfoldable pub shown_text : ℕ → Observed → List ℕ
shown_text n seen =
    monitored_text n seen.mon
    ++ (flat_map (output_text n) seen.outputs ++ changed_mode_text n seen.mode)

-- the reply to a request, which is entry n; the other entries have none
abbrev pub replied_text : (n who : ℕ) → What → Reply → List ℕ
replied_text n who (Ask request) reply = reply_text n who request reply
replied_text n who what reply = []

-- what entry n did: what it showed, and then its reply
abbrev pub entry_text : ℕ → Entry → EntryResult → List ℕ
entry_text n e happened =
    shown_text n happened.seen ++ replied_text n e.who e.what happened.reply

-- the lines of these entries, from the state behind n entries
abbrev pub entry_lines_from : Code → ℕ → State → List Entry → List ℕ
entry_lines_from code n s [] = []
entry_lines_from code n s (e ∷ es) =
    entry_text (n + 1) e (entry_result code s e.what)
    ++ entry_lines_from code (n + 1) (entry_result code s e.what).state es

-- the line of one row of a data block: 32 of its bytes, and in the last row what is left
abbrev pub row_of : (number : ℕ) (bytes : List ℕ) → (row : ℕ) → List ℕ
row_of number bytes row = row_text number (32 * row) (take 32 (drop (32 * row) bytes))

-- the lines of a data block, with its number; one of no bytes has none
unfoldable pub data_block_text : ℕ × List ℕ → List ℕ
data_block_text block =
    flat_map (row_of block.0 block.1) (range_with_len 0 (div_ceil (length block.1) 32))

-- the lines of the data blocks by rising number
abbrev pub data_blocks_text : GlobalStore → List ℕ
data_blocks_text store = flat_map data_block_text (finmap.entries store.memory.data_blocks)

-- the end of a run's text: the mode after n entries, and then the data blocks
abbrev pub closing_text : ℕ → State → List ℕ
closing_text n s = end_text n s.mode ++ data_blocks_text s.store

-- the text of a program's run along a history, at a profile
unfoldable pub run_text : Profile → Code → List Entry → List ℕ
run_text profile code entries =
    entry_lines_from code 0 (initial_state profile code) entries
    ++ closing_text (length entries) (replay profile code (entry_events entries))
