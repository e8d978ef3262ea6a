use Rattle.image_file.proofs.BlockTableLemmas.{FindsFrom}
use Rattle.image_file.proofs.block_table.block_table.Given as goal

abbrev pub invariant-loop-i : goal.invariant-loop-i
invariant-loop-i l = FindsFrom l.blocks l.i l.table.items
