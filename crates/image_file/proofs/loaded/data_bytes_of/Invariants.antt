use Rattle.std.proofs.Common.{◌≡◌, drop}
use Rattle.image_file.specs.Readers.{data_bytes_of}
use Rattle.image_file.proofs.loaded.data_bytes_of.Given as goal

abbrev pub invariant-loop-block : goal.invariant-loop-block
invariant-loop-block l = data_bytes_of l.number (drop l.block-index l.blocks) ≡ data_bytes_of l.number l.blocks
