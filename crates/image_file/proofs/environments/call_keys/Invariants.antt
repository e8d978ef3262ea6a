use Rattle.std.proofs.Common.{◌≡◌, map, take}
use Rattle.image_file.specs.Tables.{call_key}
use Rattle.image_file.proofs.environments.call_keys.Given as goal

abbrev pub invariant-loop-block : goal.invariant-loop-block
invariant-loop-block l = l.keys.items ≡ map call_key (take l.block-index l.blocks)
