use Rattle.std.proofs.Common.{◌≡◌, ◌≤◌, drop}
use Rattle.flat_code.specs.Checking.{good_datas}
use Rattle.flat_code.proofs.good_data.are_good_data_blocks.Given as goal

abbrev pub invariant-loop-block : goal.invariant-loop-block
invariant-loop-block l = (good_datas (l.before, l.sum) (drop l.block-index l.blocks) ≡ good_datas (0, 0) l.blocks) × (l.sum ≤ 2097152)
