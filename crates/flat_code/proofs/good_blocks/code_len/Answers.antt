use Rattle.std.proofs.Common.{arith}
use Rattle.flat_code.proofs.CheckLemmas.{left_code, ops_behind}
use Rattle.flat_code.proofs.good_blocks.code_len.Goals as goal

pub loop-op-preserved : goal.loop-op-preserved
loop-op-preserved c =
    let ops = c.args.ops.now in
    let i = c.loop-op.op-index in
    let left = left_code ops i c.op-item.result c.loop-op-test.true c.op-item.is in (
      omega (arith, left, c.size.ensures.size, c.loop-op.invariant.0, c.in-Some.ensures),
      λ h. c.loop-op.invariant.1 (ops_behind ops i c.op-item.result c.loop-op-test.true c.op-item.is c.size.ensures.op h),
    )
