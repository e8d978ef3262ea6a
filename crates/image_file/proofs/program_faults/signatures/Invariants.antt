use Rattle.std.proofs.Common.{◌≡◌, ◌++◌, map, drop}
use Rattle.flat_code.specs.Blocks.{signature_of}
use Rattle.flat_code.specs.Image.{record_of_block}
use Rattle.image_file.proofs.program_faults.signatures.Given as goal

abbrev pub invariant-loop-block : goal.invariant-loop-block
invariant-loop-block l = l.signatures.items ++ map signature_of (map record_of_block (drop l.block-index l.blocks)) ≡ map signature_of (map record_of_block l.blocks)
