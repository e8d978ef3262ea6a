use Rattle.std.proofs.Common.{◌∙◌, ap}
use Rattle.stl_types.specs.Parameters.{Callee}
use Rattle.stl_types.proofs.CallLemmas.{call_joined}
use Rattle.stl_types.proofs.call_walks.least_in_call.Goals as goal

pub returns : goal.returns
returns c =
    call_joined c.args.context.now c.args.callee.now c.args.statement.now c.as_slice-formals.result.now c.as_slice-actuals.result.now _ _ _ _ _ _ _ _ _ _ _ _ _ _
    (c.as_slice-formals.ensures.value ∙ ap (λ (k : Callee). k.formals) c.callee.view_is) c.as_slice-actuals.ensures c.in_ok-unnamed.ensures c.in_ok-twice.ensures
    c.in_ok-lacks.ensures c.broken_if-missing.ensures c.in_ok-misfit.ensures c.has_wrong_instance-wrong.ensures c.broken_if-instance.ensures c.is_bare_call.ensures c.broken_if-bare.ensures
    c.lesser.ensures c.lesser-2.ensures c.lesser-by_actuals.ensures c.lesser-3.ensures c.lesser-4.ensures
