-- Why a text isn't read.
use Rattle.std.specs.Prelude.{◌≡◌, ◌++◌, ℕ, List, Result, Ok, Err}
use Rattle.plc_base.specs.declared.refusals.Refusal.{Refusal}
use Rattle.var_access.specs.Readings.{Reading}
use Rattle.var_access.specs.declared.entries.Entry.{Entry}
use Rattle.event_text.specs.declared.faults.TextFault.{TextFault}
use Rattle.event_text.specs.declared.faults.TextFault.TheVariants.{BadLine, NoMemory}

-- a fault tells a text's first bad line with the least rule that this breaks; want of memory says
-- nothing of the text
abbrev pub IsTextFault : Result (List Entry) Refusal → TextFault → Type 0
IsTextFault reading (BadLine line rule) = reading ≡ Err (record { line = line; rule = rule })
IsTextFault reading NoMemory = Unit {0}

-- a fault tells a line's number and the least rule that the line breaks; want of memory says
-- nothing of the line
abbrev pub IsEntryLineFault : (number : ℕ) → Reading (List Entry) → TextFault → Type 0
IsEntryLineFault number reading (BadLine line rule) = (line ≡ number) × (reading ≡ Err rule)
IsEntryLineFault number reading NoMemory = Unit {0}

-- entries are others with those of a right line behind them
abbrev pub IsFollowedByEntries : Reading (List Entry) → (before after : List Entry) → Type 0
IsFollowedByEntries (Ok entries) before after = after ≡ before ++ entries
IsFollowedByEntries (Err rule) before after = ⊥
