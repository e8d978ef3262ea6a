use Rattle.std.proofs.Common.{◌≡◌, drop}
use Rattle.block_layout.specs.Cycles.{with_marks}
use Rattle.block_layout.proofs.cycles.mark_all.Given as goal

abbrev pub invariant-loop-block : goal.invariant-loop-block
invariant-loop-block l =
    with_marks (l.reached, l.found.items) (drop l.block-index l.blocks) ≡ with_marks (l.fn.reached, l.fn.found.items) l.blocks
