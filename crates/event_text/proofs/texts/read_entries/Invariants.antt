use Rattle.std.proofs.Common.{◌≡◌, ◌≤◌, ◌+◌, length}
use Rattle.std.specs.List.{All}
use Rattle.flat_code.specs.Names.{find}
use Rattle.var_access.specs.Entry.{IsValid}
use Rattle.event_text.specs.LineEntries.{HasWorker}
use Rattle.event_text.specs.Texts.{steps_in}
use Rattle.event_text.proofs.ReadingLemmas.{GoesOn}
use Rattle.event_text.proofs.texts.read_entries.Given as goal

-- the text's entries are those that were read, and then those of the rest
abbrev pub invariant-loop-rest : goal.invariant-loop-rest
invariant-loop-rest l = record {
  read : GoesOn l.kind (find l.names) l.bytes l.entries.items l.number l.rest;
  steps : steps_in l.entries.items ≡ 0;
  valid : HasWorker l.kind → All IsValid l.entries.items;
  lines : l.number + length l.rest ≤ length l.bytes + 1;
}

abbrev pub decreases-loop-rest : goal.decreases-loop-rest
decreases-loop-rest l = length l.rest
