use Rattle.std.proofs.Common.{◌≡◌, drop, None}
use Rattle.flat_code.specs.Blocks.{pass_before}
use Rattle.image_file.proofs.operands.pass_before.Given as goal

abbrev pub invariant-loop-op : goal.invariant-loop-op
invariant-loop-op l = pass_before l.found (drop l.op-index l.before) ≡ pass_before None l.before
