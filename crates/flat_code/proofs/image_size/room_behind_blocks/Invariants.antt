use Rattle.std.proofs.Common.{◌≡◌, ◌+◌, drop}
use Rattle.std.specs.List.{sum_by}
use Rattle.flat_code.specs.Checking.{records_size}
use Rattle.flat_code.proofs.image_size.room_behind_blocks.Given as goal

abbrev pub invariant-loop-block : goal.invariant-loop-block
invariant-loop-block l = l.room + sum_by records_size l.blocks ≡ l.fn.room + sum_by records_size (drop l.block-index l.blocks)
