use Rattle.std.proofs.Common.{arith, ap, ◌+◌, ℕ}
use Rattle.image_file.proofs.CheckLemmas.{here_fits, left_next}
use Rattle.image_file.proofs.writing.code_len.Goals as goal

pub overflow_add-len : goal.overflow_add-len
overflow_add-len c = omega (arith, c.size-len.ensures.size, c.requires, here_fits c.loop-op.len c.loop-op.op-index _ c.args.ops.now c.op-item.result c.loop-op-test.true c.op-item.is c.loop-op.invariant)

pub loop-op-preserved : goal.loop-op-preserved
loop-op-preserved c = left_next c.loop-op.len c.loop-op.op-index _ _ c.args.ops.now c.op-item.result c.loop-op-test.true c.op-item.is (ap (λ (k : ℕ). c.loop-op.len + k) c.size-len.ensures.size) c.loop-op.invariant
