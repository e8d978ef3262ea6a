use Rattle.std.proofs.Common.{◌≡◌, map}
use Rattle.flat_code.specs.Image.{block_of_record}
use Rattle.flat_code.specs.Loading.{blocks_of}
use Rattle.image_file.specs.Running.{located_block}
use Rattle.image_file.specs.Typing.{HaveFewParameters}
use Rattle.image_file.proofs.typing.code_blocks.Given as goal

abbrev pub invariant-loop-started : goal.invariant-loop-started
invariant-loop-started l = HaveFewParameters (blocks_of (map located_block l.yielded)) → l.typed.items ≡ map block_of_record (blocks_of (map located_block l.yielded))
