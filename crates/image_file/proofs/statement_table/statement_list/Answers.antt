use Rattle.std.proofs.Common.{arith, ◌∙◌, ap, ◌+◌, ℕ}
use Rattle.image_file.proofs.CheckLemmas.{here_fits, left_next, starts_next}
use Rattle.image_file.proofs.statement_table.statement_list.Goals as goal

pub overflow_add-at : goal.overflow_add-at
overflow_add-at c = omega (arith, c.size-at.ensures.size, c.requires, here_fits c.loop-op.at c.loop-op.op-index _ c.args.ops.now c.op-item.result c.loop-op-test.true c.op-item.is c.loop-op.invariant.left)

pub loop-op-preserved : goal.loop-op-preserved
loop-op-preserved c =
    let size_is = ap (λ (k : ℕ). c.loop-op.at + k) c.size-at.ensures.size in
    record {
      all = rw c.is_last-begin.ensures (starts_next c.loop-op.statements.items c.loop-op.at c.loop-op.op-index (c.loop-op.at + c.size-at.result) c.loop-op.begin c.loop-op.nesting.brackets.items c.pass.new.self.brackets.items c.loop-op.nesting.zones.items c.pass.new.self.zones.items c.args.ops.now c.op-item.result c.add_statement.new.statements.items c.loop-op-test.true c.op-item.is size_is c.in_ok-pass.ensures.brackets c.in_ok-pass.ensures.zones
          c.in_ok-add_statement.ensures) ∙ c.loop-op.invariant.all;
      left = left_next c.loop-op.at c.loop-op.op-index _ _ c.args.ops.now c.op-item.result c.loop-op-test.true c.op-item.is size_is c.loop-op.invariant.left;
    }
