use Rattle.std.proofs.Common.{◌≡◌, ◌++◌, map, drop}
use Rattle.flat_code.specs.Blocks.{signature_of}
use Rattle.flat_code.specs.Loading.{blocks_of}
use Rattle.image_file.specs.Running.{located_block}
use Rattle.image_file.proofs.loading.signatures.Given as goal

abbrev pub invariant-loop-started : goal.invariant-loop-started
invariant-loop-started l = l.signatures.items ++ map signature_of (blocks_of (map located_block (drop l.started-index l.blocks))) ≡ map signature_of (blocks_of (map located_block l.blocks))
