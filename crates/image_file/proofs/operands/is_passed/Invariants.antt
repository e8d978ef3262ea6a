use Rattle.std.proofs.Common.{◌≡◌, drop}
use Rattle.flat_code.specs.Blocks.{is_passed}
use Rattle.image_file.proofs.operands.is_passed.Given as goal

abbrev pub invariant-loop-op : goal.invariant-loop-op
invariant-loop-op l = is_passed l.index (drop l.op-index l.ops) ≡ is_passed l.index l.ops
