-- Histories, stimuli and scripts: the entries of a text, or its first bad line with the least rule
-- that the line breaks.
use Rattle.std.specs.Prelude.{ℕ, ◌+◌, List, [], ◌∷◌, ◌++◌, count_by, Result, Ok, Err}
use Rattle.std.specs.Str.Lines.{lines}
use Rattle.plc_base.specs.declared.refusals.Refusal.{Refusal}
use Rattle.flat_code.specs.Names.{find}
use Rattle.flat_code.specs.Programs.{NameEntry}
use Rattle.var_access.specs.Readings.{Reading}
use Rattle.var_access.specs.Runs.{is_step}
use Rattle.var_access.specs.Variables.{Names}
use Rattle.var_access.specs.declared.entries.Entry.{Entry}
use Rattle.event_text.specs.declared.kinds.TextKind.{TextKind}
use Rattle.event_text.specs.declared.kinds.TextKind.TheVariants.{History, Stimuli, Script}
use Rattle.event_text.specs.Lines.{line_read}

-- how many of the entries are steps
abbrev pub steps_in : List Entry → ℕ
steps_in entries = count_by is_step entries

-- entries in front of those that follow, or the refusal of these
abbrev pub entries_in_front : List Entry → Result (List Entry) Refusal → Result (List Entry) Refusal
entries_in_front entries (Ok more) = Ok (entries ++ more)
entries_in_front entries (Err refusal) = Err refusal

-- a line's entries in front of those that follow, or the line's refusal
abbrev pub entries_of_line_first :
    (line : ℕ) → Reading (List Entry) → (List Entry → Result (List Entry) Refusal) → Result (List Entry) Refusal
entries_of_line_first line (Err rule) more = Err (record { line = line; rule = rule })
entries_of_line_first line (Ok entries) more = entries_in_front entries (more entries)

-- the entries that lines spell, the first of which has this number and `before` steps before it, or
-- the refusal of the first bad one
unfoldable pub entries_of_read_lines :
    TextKind → Names → (line before : ℕ) → List (List ℕ) → Result (List Entry) Refusal
entries_of_read_lines kind names line before [] = Ok []
entries_of_read_lines kind names line before (text ∷ more) =
    entries_of_line_first line (line_read kind names before text)
    (λ entries. entries_of_read_lines kind names (line + 1) (before + steps_in entries) more)

-- the entries that a whole text spells, or the refusal of its first bad line, counted from 1
unfoldable pub text_read : TextKind → Names → List ℕ → Result (List Entry) Refusal
text_read kind names text = entries_of_read_lines kind names 1 0 (lines text)

-- the entries that the text of a history spells with the names of a program, or its refusal
abbrev pub history_of_text : List NameEntry → List ℕ → Result (List Entry) Refusal
history_of_text names text = text_read History (find names) text

-- the entries that a text of stimuli spells, which know no names, or its refusal
abbrev pub stimuli_of : List ℕ → Result (List Entry) Refusal
stimuli_of text = text_read Stimuli (find []) text

-- the entries that the script of a worker spells with the names of a program, or its refusal
abbrev pub script_of : (who : ℕ) → List NameEntry → List ℕ → Result (List Entry) Refusal
script_of who names text = text_read (Script who) (find names) text
