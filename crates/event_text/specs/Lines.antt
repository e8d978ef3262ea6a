-- A line of a history, of stimuli or of a script: the entries that it spells, or the least rule
-- that it breaks.
use Rattle.std.specs.Prelude.{ℕ, ◌==◌, ◌+◌, List, [], ◌∷◌, length, min, replicate, nat_eq, nat_le, Bool, true, false, ◌||◌, Option, Some, None, Ok, Err, codes, bytes_eq, if◌then◌else◌}
use Rattle.std.specs.List.{starts_with}
use Rattle.plc_base.specs.AreaBytes.{is_peripheral_byte}
use Rattle.var_access.specs.Entry.{is_arrivable}
use Rattle.var_access.specs.Readings.{Reading, both_readings, reading_map, no_line, number_reading, address_number, hex_of, first_word, words_of}
use Rattle.var_access.specs.Requests.{request_line, request_of}
use Rattle.var_access.specs.Variables.{Names}
use Rattle.var_access.specs.declared.entries.Entry.{Entry}
use Rattle.var_access.specs.declared.entries.What.TheVariants.{Input, Arrive, Tick}
use Rattle.event_text.specs.declared.kinds.TextKind.{TextKind}
use Rattle.event_text.specs.declared.kinds.TextKind.TheVariants.{History, Stimuli, Script}
use Rattle.event_text.specs.Workers.{request_entry, feeder_entry, one_step, worker_of}

-- how many steps a history has at most: 1,000,000
abbrev pub most_steps : ℕ
most_steps = 1000000

-- how many steps the words behind `step` say: one without a word, else a number from 1 to 1,000,000
abbrev pub step_count : List (List ℕ) → Reading ℕ
step_count [] = Ok 1
step_count (number ∷ []) = number_reading 1 1000000 2 number
step_count words = no_line

-- the count of steps of a line, with `before` steps in the lines before it; rule 6 where the
-- history has more than 1,000,000 then
abbrev pub step_count_behind : (before : ℕ) → Reading ℕ → Reading ℕ
step_count_behind before (Err rule) = Err rule
step_count_behind before (Ok count) = if nat_le (before + count) most_steps then Ok count else Err 6

-- `step`, `step n`: one step, or n of them
unfoldable pub step_line : (before : ℕ) → List (List ℕ) → Reading ℕ
step_line before words = step_count_behind before (step_count words)

-- a number that was read, where it passes a test; another one breaks rule 2
abbrev pub number_among : (ℕ → Bool) → Reading ℕ → Reading ℕ
number_among test (Err rule) = Err rule
number_among test (Ok n) = if test n then Ok n else Err 2

-- `in b hh`: an existing peripheral byte takes a value
unfoldable pub input_line : List (List ℕ) → Reading Entry
input_line (byte ∷ value ∷ []) =
    reading_map (λ p. feeder_entry (Input p.0 p.1))
    (both_readings (number_among is_peripheral_byte (address_number byte)) (hex_of 2 value))
input_line words = no_line

-- `arrive ob`, `arrive ob hhhhhhhh`: an interrupt arrives, with the value 0 or another one
unfoldable pub arrival_line : List (List ℕ) → Reading Entry
arrival_line (ob ∷ []) =
    reading_map (λ n. feeder_entry (Arrive n 0))
    (number_among is_arrivable (address_number ob))
arrival_line (ob ∷ value ∷ []) =
    reading_map (λ p. feeder_entry (Arrive p.0 p.1))
    (both_readings (number_among is_arrivable (address_number ob)) (hex_of 8 value))
arrival_line words = no_line

-- `tick n`: 1 to 60,000 milliseconds pass
unfoldable pub tick_line : List (List ℕ) → Reading Entry
tick_line (number ∷ []) = reading_map (λ n. feeder_entry (Tick n)) (number_reading 1 60000 2 number)
tick_line words = no_line

-- the entry of an operator's request, by the operator's number and the request behind it
abbrev pub operator_with : Names → Option (List ℕ × List ℕ) → Reading Entry
operator_with names None = no_line
operator_with names (Some w) =
    reading_map (λ p. request_entry (worker_of p.0) p.1)
    (both_readings (number_reading 1 4 5 w.0) (request_line names w.1))

-- `op k REQUEST`: operator k, 1 to 4, asks
unfoldable pub operator_line : Names → (rest : List ℕ) → Reading Entry
operator_line names rest = operator_with names (first_word rest)

-- `REQUEST`: the worker of a script asks
unfoldable pub script_line : Names → (who : ℕ) → (word rest : List ℕ) → Reading Entry
script_line names who word rest = reading_map (request_entry who) (request_of names word rest)

-- `step` and `op` lines may stand in a text of this kind: it is a history
abbrev pub is_history : TextKind → Bool
is_history History = true
is_history _ = false

-- `in`, `arrive` and `tick` lines may stand in a text of this kind: a history or stimuli
abbrev pub has_feeder_lines : TextKind → Bool
has_feeder_lines History = true
has_feeder_lines Stimuli = true
has_feeder_lines _ = false

-- lines that are requests alone may stand in a text of this kind: it is a script
abbrev pub is_script : TextKind → Bool
is_script (Script who) = true
is_script _ = false

-- the worker whose requests a script has; 1 for another text
abbrev pub script_worker : TextKind → ℕ
script_worker (Script who) = who
script_worker _ = 1

-- what was read of a line, where lines of its kind may stand in the text; else rule 4, or a lesser
-- rule that it breaks besides
abbrev pub where_allowed : {A : Type 0} → Bool → Reading A → Reading A
where_allowed true reading = reading
where_allowed false (Ok a) = Err 4
where_allowed false (Err rule) = Err (min rule 4)

-- the entries of a line of so many steps, one for each step
abbrev pub step_entries : (count : ℕ) → List Entry
step_entries count = replicate count one_step

-- the entries of a line that has one entry
abbrev pub one_entry : Entry → List Entry
one_entry entry = entry ∷ []

-- the entries of a line that has one entry, where lines of its kind may stand in the text
abbrev pub one_where_allowed : Bool → Reading Entry → Reading (List Entry)
one_where_allowed allowed reading = reading_map one_entry (where_allowed allowed reading)

-- the entries of a line, behind `before` steps, by its first word and the text behind it
abbrev pub line_with :
    TextKind → Names → (before : ℕ) → Option (List ℕ × List ℕ) → Reading (List Entry)
line_with kind names before None = no_line
line_with kind names before (Some w) =
    if bytes_eq w.0 (codes "step") then
    reading_map step_entries (where_allowed (is_history kind) (step_line before (words_of w.1)))
    else if bytes_eq w.0 (codes "in") then
    one_where_allowed (has_feeder_lines kind) (input_line (words_of w.1))
    else if bytes_eq w.0 (codes "arrive") then
    one_where_allowed (has_feeder_lines kind) (arrival_line (words_of w.1))
    else if bytes_eq w.0 (codes "tick") then
    one_where_allowed (has_feeder_lines kind) (tick_line (words_of w.1))
    else if bytes_eq w.0 (codes "op") then
    one_where_allowed (is_history kind) (operator_line names w.1)
    else one_where_allowed (is_script kind) (script_line names (script_worker kind) w.0 w.1)

-- empty lines and lines that begin with `//` are skipped
abbrev pub is_entry_line_skipped : (line : List ℕ) → Bool
is_entry_line_skipped line = length line == 0 || starts_with nat_eq line (codes "//")

-- the entries that a line spells, behind `before` steps, or the least rule that it breaks
unfoldable pub line_read : TextKind → Names → (before : ℕ) → (line : List ℕ) → Reading (List Entry)
line_read kind names before line =
    if is_entry_line_skipped line then Ok [] else line_with kind names before (first_word line)
