use Rattle.std.proofs.Common.{◌++◌, ◌∙◌, [], ◌∷◌, Option, ap, sym}
use Rattle.std.proofs.lemmas.List.{append-nil}
use Rattle.stl_ast.specs.declared.statements.Actual.{Actual}
use Rattle.stl_types.specs.declared.parameters.Formal.{Formal}
use Rattle.stl_list.specs.Actuals.{actual_for}
use Rattle.stl_list.proofs.actuals.add_actual.Goals as goal

pub returns-in-None : goal.returns-in-None
returns-in-None c =
    sym (append-nil c.args.actuals.now.items)
    ∙ ap (λ (f : Option Formal). c.args.actuals.now.items ++ actual_for c.args.line c.args.formals.now f c.args.passed) c.in-None.ensures

pub returns-in_ok-push-in-Some : goal.returns-in_ok-push-in-Some
returns-in_ok-push-in-Some c =
    c.in_ok-push-in-Some.ensures.items
    ∙ ap (λ (a : Actual). c.args.actuals.now.items ++ a ∷ []) c.in_ok-actual-in-Some.ensures
    ∙ ap (λ (f : Option Formal). c.args.actuals.now.items ++ actual_for c.args.line c.args.formals.now f c.args.passed) c.in-Some.ensures
