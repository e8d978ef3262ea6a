use Rattle.std.proofs.Common.{◌++◌, ◌∙◌, Option, ap, sym}
use Rattle.std.proofs.lemmas.List.{append-nil}
use Rattle.stl_types.specs.declared.parameters.Formal.{Formal}
use Rattle.stl_list.specs.JoinedParameters.{typed_link}
use Rattle.stl_list.proofs.links.add_typed.Goals as goal

pub returns-in-None : goal.returns-in-None
returns-in-None c =
    sym (append-nil c.args.links.now.items)
    ∙ ap (λ (f : Option Formal). c.args.links.now.items ++ typed_link c.args.own f) c.in-None.ensures

pub returns-in_ok-push-in-Some : goal.returns-in_ok-push-in-Some
returns-in_ok-push-in-Some c =
    c.in_ok-push-in-Some.ensures.items
    ∙ ap (λ (f : Option Formal). c.args.links.now.items ++ typed_link c.args.own f) c.in-Some.ensures
