use Rattle.std.proofs.Common.{[], drop}
use Rattle.stl_codegen.proofs.AppendLemmas.{Between}
use Rattle.stl_list.specs.Actuals.{actuals_before}
use Rattle.stl_list.proofs.actuals.actuals_before.Given as goal

abbrev pub invariant-loop-op : goal.invariant-loop-op
invariant-loop-op l =
    Between [] l.actuals.items (actuals_before l.line l.formals l.called (drop l.op-index l.before))
    (actuals_before l.line l.formals l.called l.before)
