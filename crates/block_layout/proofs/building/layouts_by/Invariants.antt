use Rattle.std.proofs.Common.{◌≡◌, length}
use Rattle.block_layout.proofs.LayoutLemmas.{AreLaid}
use Rattle.block_layout.proofs.building.layouts_by.Given as goal

abbrev pub invariant-loop-outline : goal.invariant-loop-outline
invariant-loop-outline l = record {
  turns : length l.layouts.items ≡ length l.yielded;
  laid : AreLaid l.types l.blocks l.layouts.items l.before;
}
