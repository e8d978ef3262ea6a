use Rattle.std.proofs.Common.{◌≡◌, take}
use Rattle.image_file.proofs.copies.code_blocks_again.Given as goal

abbrev pub invariant-loop-block : goal.invariant-loop-block
invariant-loop-block l = l.again.items ≡ take l.block-index l.blocks
