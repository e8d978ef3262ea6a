use Rattle.image_file.proofs.TableLemmas.{Holds}
use Rattle.image_file.proofs.tables.table_of.Given as goal

abbrev pub invariant-loop-i : goal.invariant-loop-i
invariant-loop-i l = Holds l.starts l.len l.i l.table.items
