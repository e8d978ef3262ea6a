use Rattle.std.proofs.Common.{◌<◌, drop, length}
use Rattle.block_layout.proofs.SectionLemmas.{AreSectionsLeft}
use Rattle.block_layout.proofs.sections.sections.Given as goal

abbrev pub invariant-loop-part : goal.invariant-loop-part
invariant-loop-part l = record {
  room : 0 < length l.open_.items;
  left : AreSectionsLeft l.types l.block (drop l.part-index l.block.parts) l.made l.open_.items;
}
