use Rattle.std.proofs.Common.{◌≡◌, drop}
use Rattle.flat_code.specs.PlacedOps.{ending_op}
use Rattle.image_file.proofs.operands.ending_op.Given as goal

abbrev pub invariant-loop-next : goal.invariant-loop-next
invariant-loop-next l = ending_op l.last (drop l.next-index l.rest) ≡ ending_op l.fn.op l.rest
