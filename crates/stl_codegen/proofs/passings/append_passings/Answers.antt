use Rattle.std.proofs.Common.{◌<◌, Option, length, subst, arith}
use Rattle.stl_ast.specs.declared.statements.Actual.{Actual}
use Rattle.stl_codegen.specs.EmittedOps.{pass_ops}
use Rattle.stl_codegen.specs.Fitting.{AreOpsAppended}
use Rattle.stl_codegen.specs.PassedParameters.{passed_actual, actual_of_formal}
use Rattle.stl_codegen.proofs.AppendLemmas.{appended_none, appended_some, between_stop, between_turn}
use Rattle.stl_codegen.proofs.PassingLemmas.{passings_turn}
use Rattle.stl_codegen.proofs.passings.append_passings.Goals as goal

pub returns-in_default : goal.returns-in_default
returns-in_default c =
    let formal = c.index-formals-index.result in
    let here = pass_ops (passed_actual c.args.context.now c.loop-index.index (actual_of_formal c.args.actuals.now formal)) in
    let within : c.loop-index.index < length c.args.formals.now = omega arith in
    let made : AreOpsAppended c.loop-index.ops.items c.append_actual.new.ops.items here c.in_ok-append_actual.field-0 =
    subst (λ (a : Option Actual). AreOpsAppended c.loop-index.ops.items c.append_actual.new.ops.items (pass_ops (passed_actual c.args.context.now c.loop-index.index a)) c.in_ok-append_actual.field-0)
    c.actual_of_formal-actual.ensures c.in_ok-append_actual.ensures in
    between_stop c.args.ops.now.items c.loop-index.ops.items _ here _ _ c.loop-index.invariant
    (passings_turn c.args.context.now c.args.actuals.now c.args.formals.now c.loop-index.index formal within c.index-formals-index.is)
    (appended_none c.loop-index.ops.items c.append_actual.new.ops.items here c.in_ok-append_actual.field-0 c.in_default.is made)

pub loop-index-preserved : goal.loop-index-preserved
loop-index-preserved c =
    let formal = c.index-formals-index.result in
    let here = pass_ops (passed_actual c.args.context.now c.loop-index.index (actual_of_formal c.args.actuals.now formal)) in
    let within : c.loop-index.index < length c.args.formals.now = omega arith in
    let made : AreOpsAppended c.loop-index.ops.items c.append_actual.new.ops.items here c.in_ok-append_actual.field-0 =
    subst (λ (a : Option Actual). AreOpsAppended c.loop-index.ops.items c.append_actual.new.ops.items (pass_ops (passed_actual c.args.context.now c.loop-index.index a)) c.in_ok-append_actual.field-0)
    c.actual_of_formal-actual.ensures c.in_ok-append_actual.ensures in
    between_turn c.args.ops.now.items c.loop-index.ops.items c.append_actual.new.ops.items _ here _ _ c.loop-index.invariant
    (passings_turn c.args.context.now c.args.actuals.now c.args.formals.now c.loop-index.index formal within c.index-formals-index.is)
    (appended_some c.loop-index.ops.items c.append_actual.new.ops.items here c.in_ok-append_actual.field-0 c.in-Some.field-0 c.in-Some.is made)
