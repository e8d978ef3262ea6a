use Rattle.std.proofs.Common.{◌≡◌}
use Rattle.image_file.proofs.loaded.loaded_blocks.Given as goal

abbrev pub invariant-loop-block : goal.invariant-loop-block
invariant-loop-block l = l.loaded.items ≡ l.yielded
