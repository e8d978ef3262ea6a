-- What a line was read as.
use Rattle.std.specs.Prelude.{◌≡◌, ◌≤◌, ◌+◌, ℕ, true, false, List, []}
use Rattle.var_access.specs.Entry.{IsValid}
use Rattle.var_access.specs.Readings.{Reading, reading_map}
use Rattle.var_access.specs.Runs.{is_step}
use Rattle.var_access.specs.declared.entries.Entry.{Entry}
use Rattle.event_text.specs.declared.kinds.TextKind.{TextKind}
use Rattle.event_text.specs.declared.kinds.TextKind.TheVariants.{Script}
use Rattle.event_text.specs.declared.lines.LineEntries.{LineEntries}
use Rattle.event_text.specs.declared.lines.LineEntries.TheVariants.{Nothing, Steps, One}
use Rattle.event_text.specs.Lines.{is_history, most_steps, one_entry, step_entries}

-- the entries that a line of a text stands for
abbrev pub entries_of_line : LineEntries → List Entry
entries_of_line Nothing = []
entries_of_line (Steps count) = step_entries count
entries_of_line (One entry) = one_entry entry

-- the entries that a line was read as, or the rule that it breaks
abbrev pub entries_read : Reading LineEntries → Reading (List Entry)
entries_read reading = reading_map entries_of_line reading

-- a valid entry that is no step
pub record IsOtherEntry (entry : Entry) : Type 0 where
  -- the entry is no step
  pub other : is_step entry ≡ false
  -- the worker of the entry is numbered from 1, and its numbers are in their ranges
  pub valid : IsValid entry

-- a line stands for one valid entry that is no step
abbrev pub IsOtherLine : LineEntries → Type 0
IsOtherLine (One entry) = IsOtherEntry entry
IsOtherLine _ = ⊥

-- the worker of a script is numbered from 1
abbrev pub HasWorker : TextKind → Type 0
HasWorker (Script who) = 1 ≤ who
HasWorker _ = Unit {0}

-- a line of a script stands for one entry that is no step, and valid where the script's worker is
-- numbered from 1
abbrev pub IsScriptLine : TextKind → LineEntries → Type 0
IsScriptLine kind (One entry) = (is_step entry ≡ false) × (HasWorker kind → IsValid entry)
IsScriptLine kind _ = ⊥

-- what a line of a text of this kind may stand for, behind `before` steps: steps in a history
-- alone, and no more than there may be; an entry that is no step, valid where the worker is
-- numbered from 1
abbrev pub IsLineAllowed : TextKind → (before : ℕ) → LineEntries → Type 0
IsLineAllowed kind before Nothing = Unit {0}
IsLineAllowed kind before (Steps count) =
    (is_history kind ≡ true) × (1 ≤ count) × (before + count ≤ most_steps)
IsLineAllowed kind before (One entry) = (is_step entry ≡ false) × (HasWorker kind → IsValid entry)
