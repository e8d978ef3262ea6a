use Rattle.std.proofs.Common.{◌≡◌, map, drop}
use Rattle.flat_code.specs.Image.{record_of_block}
use Rattle.image_file.specs.Verifying.{are_whole}
use Rattle.image_file.proofs.program_faults.are_whole.Given as goal

abbrev pub invariant-loop-block : goal.invariant-loop-block
invariant-loop-block l = are_whole (map record_of_block (drop l.block-index l.blocks)) ≡ are_whole (map record_of_block l.blocks)
