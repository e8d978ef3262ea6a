-- Histories that are written and read again.
use Rattle.std.specs.Prelude.{◌≡◌, ◌≤◌, List, Ok}
use Rattle.std.specs.List.{All}
use Rattle.flat_code.specs.Programs.{NameEntry}
use Rattle.var_access.specs.declared.entries.Entry.{Entry}
use Rattle.event_text.specs.Lines.{most_steps}
use Rattle.event_text.specs.Regular.{IsRegular}
use Rattle.event_text.specs.Texts.{history_of_text, steps_in}
use Rattle.event_text.specs.HistoryText.{history_text}

-- what is written of a regular history with at most 1,000,000 steps is read as that history
abbrev pub WrittenIsRead : Type 0
WrittenIsRead =
    (names : List NameEntry) (entries : List Entry)
    → All IsRegular entries → steps_in entries ≤ most_steps
    → history_of_text names (history_text entries) ≡ Ok entries
