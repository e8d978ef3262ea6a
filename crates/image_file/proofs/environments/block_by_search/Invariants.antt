use Rattle.std.proofs.Common.{◌≡◌, drop}
use Rattle.flat_code.specs.Blocks.{block_with}
use Rattle.image_file.proofs.environments.block_by_search.Given as goal

abbrev pub invariant-loop-block : goal.invariant-loop-block
invariant-loop-block l = block_with l.kind l.number (drop l.block-index l.blocks) ≡ block_with l.kind l.number l.blocks
