use Rattle.std.proofs.Common.{arith, not}
use Rattle.stl_ast.specs.Statements.{is_empty_statement}
use Rattle.block_layout.proofs.HeadLemmas.{at_most_one, count_end, count_turn}
use Rattle.block_layout.proofs.rules.rule_55.statement_count.Goals as goal

pub loop-statement-preserved : goal.loop-statement-preserved
loop-statement-preserved c = (
  count_turn (λ s. not (is_empty_statement s.code)) c.args.body.now _ c.statement-item.result _ _ _ c.loop-statement-test.true c.statement-item.is c.count_of_statement-count.ensures c.loop-statement.invariant.0,
  (let one = at_most_one (not (is_empty_statement c.statement-item.result.code)) c.count_of_statement-count.result c.count_of_statement-count.ensures in omega (arith, one, c.loop-statement.invariant.1)),
)

pub returns : goal.returns
returns c = count_end (λ s. not (is_empty_statement s.code)) c.args.body.now _ _ _ c.loop-statement-test.false c.loop-statement.invariant.0
