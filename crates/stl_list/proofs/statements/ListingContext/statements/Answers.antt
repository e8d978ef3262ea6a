use Rattle.std.proofs.Common.{◌+◌, ◌++◌, ◌∙◌, List, drop, ap, sym, arith}
use Rattle.std.proofs.Math.ListN.{drop_of_length-le}
use Rattle.std.proofs.lemmas.List.{append-nil}
use Rattle.plc_base.proofs.ListLemmas.{drop_next}
use Rattle.flat_code.specs.Ops.{OpData}
use Rattle.stl_ast.specs.declared.statements.Statement.{Statement}
use Rattle.stl_list.specs.Runs.{runs, runs_from}
use Rattle.stl_list.specs.Statements.{statements_from}
use Rattle.stl_list.proofs.statements.ListingContext.statements.Goals as goal

pub loop-op-init : goal.loop-op-init
unfolding runs
loop-op-init c = (
  ap (λ (z : List Statement). z ++ statements_from c.args.self.now 0 (runs_from c.new-before.result.items c.args.ops.now)) c.new-statements.ensures.items
      ∙ ap (λ (z : List OpData). statements_from c.args.self.now 0 (runs_from z c.args.ops.now)) c.new-before.ensures.items,
  omega arith,
)

pub loop-op-preserved : goal.loop-op-preserved
loop-op-preserved c = (
  c.in_ok-n.ensures.value (drop (c.loop-op.op-index + 1) c.args.ops.now)
      ∙ ap (λ (z : List OpData). c.loop-op.statements.items ++ statements_from c.args.self.now c.loop-op.n (runs_from c.loop-op.before.items z))
      (sym (drop_next c.args.ops.now c.loop-op.op-index c.op-item.result c.loop-op-test.true c.op-item.is))
      ∙ c.loop-op.invariant.0,
  omega (arith, c.loop-op.invariant.1, c.in_ok-n.ensures.next),
)

pub returns : goal.returns
returns c =
    sym (append-nil c.loop-op.statements.items)
    ∙ sym (ap (λ (z : List OpData). c.loop-op.statements.items ++ statements_from c.args.self.now c.loop-op.n (runs_from c.loop-op.before.items z)) (drop_of_length-le c.args.ops.now {i = c.loop-op.op-index} c.loop-op-test.false))
    ∙ c.loop-op.invariant.0
