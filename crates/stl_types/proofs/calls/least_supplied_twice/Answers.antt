use Rattle.std.proofs.Common.{Bool, false, refl, ◌∙◌, ap, ◌++◌, [], ◌∷◌, List, ℕ}
use Rattle.stl_ast.specs.declared.statements.Actual.{Actual}
use Rattle.plc_base.specs.Folding.{upper_case_name}
use Rattle.plc_base.specs.Least.{broken_if, least}
use Rattle.plc_base.proofs.GatheredLemmas.{gathered_done, gathered_next}
use Rattle.plc_base.proofs.LeastLemmas.{lesser_first}
use Rattle.stl_types.specs.Calls.{is_supplied_twice, actuals_supplied_twice}
use Rattle.stl_types.proofs.calls.least_supplied_twice.Goals as goal

pub loop-actual-init : goal.loop-actual-init
loop-actual-init c = lesser_first _ ∙ ap (λ (l : List (List ℕ)). least (actuals_supplied_twice c.args.formals.now l c.args.actuals.now)) c.new-before.ensures

pub loop-actual-preserved : goal.loop-actual-preserved
loop-actual-preserved c =
    let one = c.broken_if.ensures ∙ ap (λ (v : Bool). least (broken_if v c.actual-item.result.line 35)) c.in_ok-twice.ensures in
    gathered_next (λ a. false) (λ before (a : Actual). broken_if (is_supplied_twice c.args.formals.now before a) a.line 35) (λ before (a : Actual). before ++ upper_case_name a.name ∷ [])
    c.loop-actual.before c.add_name.new.names c.args.actuals.now c.loop-actual.actual-index c.actual-item.result _ _ _ _ c.loop-actual-test.true c.actual-item.is refl
    one c.lesser-found.ensures c.in_ok-add_name.ensures c.loop-actual.invariant

pub returns : goal.returns
returns c =
    gathered_done (λ a. false) (λ before (a : Actual). broken_if (is_supplied_twice c.args.formals.now before a) a.line 35) (λ before (a : Actual). before ++ upper_case_name a.name ∷ [])
    c.loop-actual.before c.args.actuals.now _ _ _ c.loop-actual-test.false c.loop-actual.invariant
