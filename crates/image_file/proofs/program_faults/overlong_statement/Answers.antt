use Rattle.std.proofs.Common.{arith, ap, ◌∙◌, ◌+◌, ℕ}
use Rattle.image_file.proofs.CheckLemmas.{here_fits, left_next}
use Rattle.image_file.proofs.ProgramFaultLemmas.{overlong_here, overlong_next, overlong_done, count_few}
use Rattle.image_file.proofs.program_faults.overlong_statement.Goals as goal

pub returns-then-count-eq64 : goal.returns-then-count-eq64
returns-then-count-eq64 c = overlong_here c.loop-op.count c.loop-op.at c.loop-op.op-index c.args.ops.now c.op-item.result c.loop-op-test.true c.op-item.is c.if-count-eq64.true ∙ c.loop-op.invariant.same

pub overflow_add-at : goal.overflow_add-at
overflow_add-at c = omega (arith, c.size-at.ensures.size, c.requires, here_fits c.loop-op.at c.loop-op.op-index _ c.args.ops.now c.op-item.result c.loop-op-test.true c.op-item.is c.loop-op.invariant.left)

pub loop-op-preserved : goal.loop-op-preserved
loop-op-preserved c =
    let size_is = ap (λ (k : ℕ). c.loop-op.at + k) c.size-at.ensures.size in
    record {
      same = overlong_next c.loop-op.count c.count_behind_op-count.result c.loop-op.at (c.loop-op.at + c.size-at.result) c.loop-op.op-index c.args.ops.now c.op-item.result c.loop-op-test.true c.op-item.is c.if-count-eq64.false c.count_behind_op-count.ensures size_is ∙ c.loop-op.invariant.same;
      left = left_next c.loop-op.at c.loop-op.op-index _ _ c.args.ops.now c.op-item.result c.loop-op-test.true c.op-item.is size_is c.loop-op.invariant.left;
      few = count_few c.loop-op.count c.count_behind_op-count.result c.op-item.result.last c.if-count-eq64.false c.loop-op.invariant.few c.count_behind_op-count.ensures;
    }

pub returns : goal.returns
returns c = overlong_done c.loop-op.count c.loop-op.at c.loop-op.op-index c.args.ops.now c.loop-op-test.false ∙ c.loop-op.invariant.same
