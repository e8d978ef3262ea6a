use Rattle.stl_types.proofs.CallLemmas.{statement_joined}
use Rattle.stl_types.proofs.call_walks.least_in_statement.Goals as goal

pub returns : goal.returns
returns c =
    statement_joined c.args.context.now c.args.statement.now c.in_ok-callee.callee c.as_slice.result.now _ _ _ _ _ _ c.in_ok-callee.ensures c.in_ok-by_callee.ensures c.calls_unknown.ensures
    c.broken_if-unknown.ensures c.as_slice.ensures c.in_ok-date.ensures c.lesser.ensures c.lesser-2.ensures
