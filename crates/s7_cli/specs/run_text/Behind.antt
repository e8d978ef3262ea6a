-- The lines of a run as a controller that has a history shows them.
use Rattle.std.specs.Prelude.{ℕ, ◌-◌, List, ◌++◌, length}
use Rattle.image_file.specs.LoadedProgram.{LoadedProgram}
use Rattle.var_access.specs.declared.Entry.{Entry}
use Rattle.machine.specs.Flat.{code_of}
use Rattle.controller.specs.Recording.{Recording}
use Rattle.controller.specs.ReplayResult.{final_state}
use Rattle.s7_cli.specs.run_text.RunText.{closing_text, entry_lines_from}

-- a controller with further entries in its history
abbrev pub with_entries : Recording → List Entry → Recording
with_entries r entries =
    record r { history = r.history ++ entries; spare = r.spare - length entries }

-- the lines of further entries of a controller, which are counted on from those of its history
abbrev pub lines_behind : Recording → List Entry → List ℕ
lines_behind r entries =
    entry_lines_from (code_of r.program) (length r.history) (final_state r) entries

-- the lines at the end of a controller's history
abbrev pub closing_of : Recording → List ℕ
closing_of r = closing_text (length r.history) (final_state r)

-- the program of a controller, with its profile
abbrev pub program_of_recording : Recording → LoadedProgram
program_of_recording r = record { program = r.program; profile = r.profile }
