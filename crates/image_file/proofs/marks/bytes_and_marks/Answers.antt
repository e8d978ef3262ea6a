use Rattle.std.proofs.Common.{arith}
use Rattle.image_file.proofs.MarkLemmas.{number_left, two_bytes}
use Rattle.image_file.proofs.marks.bytes_and_marks.Goals as goal

pub mark-requires-clause-some : goal.mark-requires-clause-some
mark-requires-clause-some c = omega (arith, two_bytes c.op-item.result, c.size.ensures.size)

pub statements_behind-statements-requires : goal.statements_behind-statements-requires
statements_behind-statements-requires c = number_left c.args.ops.now c.loop-op.op-index c.loop-op.statements c.loop-op.begins c.loop-op.bytes.items c.loop-op.marks.items c.requires c.loop-op.invariant
