use Rattle.image_file.proofs.MarkLemmas.{IsMade}
use Rattle.image_file.proofs.marks.bytes_and_marks.Given as goal

abbrev pub invariant-loop-op : goal.invariant-loop-op
invariant-loop-op l = IsMade l.ops l.op-index l.statements l.begins l.bytes.items l.marks.items
