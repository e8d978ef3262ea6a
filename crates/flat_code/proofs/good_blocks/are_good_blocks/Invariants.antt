use Rattle.std.proofs.Common.{◌≡◌, drop}
use Rattle.flat_code.specs.Checking.{good_blocks}
use Rattle.flat_code.proofs.good_blocks.are_good_blocks.Given as goal

abbrev pub invariant-loop-block : goal.invariant-loop-block
invariant-loop-block l = good_blocks l.before (drop l.block-index l.blocks) ≡ good_blocks (0, 0) l.blocks
