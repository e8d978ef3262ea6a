use Rattle.std.proofs.Common.{◌≤◌, ◌+◌, length}
use Rattle.std.specs.List.{All}
use Rattle.flat_code.specs.Names.{find}
use Rattle.var_access.specs.Entry.{IsValid}
use Rattle.event_text.specs.declared.kinds.TextKind.TheVariants.{History}
use Rattle.event_text.proofs.ReadingLemmas.{GoesOn}
use Rattle.event_text.proofs.texts.read_history.Given as goal

-- the text's entries are those that were read, and then those of the rest
abbrev pub invariant-loop-rest : goal.invariant-loop-rest
invariant-loop-rest l = record {
  read : GoesOn History (find l.names) l.bytes l.reader.entries.entries l.reader.line l.rest;
  valid : All IsValid l.reader.entries.entries;
  lines : l.reader.line + length l.rest ≤ length l.bytes + 1;
}

abbrev pub decreases-loop-rest : goal.decreases-loop-rest
decreases-loop-rest l = length l.rest
