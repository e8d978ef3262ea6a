-- How the fields of a line are read one behind the other, in the words of the machine that reads
-- CSV.
use Rattle.std.specs.Prelude.{ℕ, Bool, ◌||◌, ◌==◌, List, [], ◌∷◌, ◌++◌, Option, Some, None, if◌then◌else◌}
use Rattle.std.specs.List.{list_all}
use Rattle.csv.specs.Machine.{next_record, after_end}
use Rattle.csv.specs.Reading.{default_config}
use Rattle.csv.specs.declared.parser.State.{State}
use Rattle.csv.specs.declared.parser.State.TheVariants as state
use Rattle.csv.specs.declared.parser.Action.{Action}
use Rattle.csv.specs.declared.parser.Action.TheVariants as action
use Rattle.csv.specs.declared.parser.Terminator.TheVariants as terminator
use Rattle.stl_symbols.specs.Line.{lone_record}
use Rattle.stl_symbols.specs.declared.fields.FieldState.{FieldState}
use Rattle.stl_symbols.specs.declared.fields.FieldState.TheVariants as field_state
use Rattle.stl_symbols.specs.declared.fields.Step.{Step}
use Rattle.stl_symbols.specs.declared.fields.Step.TheVariants as step
use Rattle.stl_symbols.specs.declared.fields.Ending.{Ending}
use Rattle.stl_symbols.specs.declared.fields.Ending.TheVariants as ending
use Rattle.stl_symbols.specs.declared.fields.Behind.{Behind}
use Rattle.stl_symbols.specs.declared.fields.Behind.TheVariants as behind

-- the state of the reader of CSV for that of a field
abbrev pub state_of : FieldState → State
state_of field_state.Start = state.StartField
state_of field_state.Plain = state.InField
state_of field_state.Quoted = state.InQuoted
state_of field_state.AfterQuote = state.AfterQuote

-- the state and the action of the reader of CSV at a step on a byte
abbrev pub machine_step : Step → ℕ → State × Action
machine_step (step.Skips next) byte = (state_of next, action.Skip)
machine_step (step.Joins next) byte = (state_of next, action.Copy)
machine_step step.EndsField byte = (state.StartField, action.EndField)
machine_step step.EndsRecord byte = (after_end terminator.CRLF byte, action.EndRecord)

-- a byte is a carriage return or a line feed, which ends a record
abbrev pub is_line_end : ℕ → Bool
is_line_end byte = byte == 13 || byte == 10

-- the only record of what is left of a line, with the fields before, and the bytes so far of the
-- field at hand
abbrev pub record_from : State → List (List ℕ) → List ℕ → List ℕ → Option (List (List ℕ))
record_from s fields field left = lone_record (next_record default_config s fields field left)

-- the fields of a line of one record: those that were read, where only line ends are left; else
-- None
abbrev pub record_before : List (List ℕ) → List ℕ → Option (List (List ℕ))
record_before fields left = if list_all is_line_end left then Some fields else None

-- the fields of a line of one record, read on behind a byte that ended a field, the record or
-- nothing
abbrev pub record_at : Option Ending → State → (fields : List (List ℕ)) → (field rest : List ℕ)
    → Option (List (List ℕ))
record_at None s fields field rest = record_from s fields field rest
record_at (Some ending.Field) s fields field rest =
    record_from state.StartField (fields ++ field ∷ []) [] rest
record_at (Some ending.Record) s fields field rest = record_before (fields ++ field ∷ []) rest

-- the fields of a line of one record, read on where a field has ended
abbrev pub record_behind : List (List ℕ) → Behind → Option (List (List ℕ))
record_behind fields (behind.Field rest) = record_from state.StartField fields [] rest.now
record_behind fields behind.Nothing = Some fields
record_behind fields behind.Record = None

-- the only record of a text at whose start no line end stands
abbrev pub record_at_start : List ℕ → Option (List (List ℕ))
record_at_start [] = None
record_at_start (byte ∷ left) = record_from state.StartField [] [] (byte ∷ left)
