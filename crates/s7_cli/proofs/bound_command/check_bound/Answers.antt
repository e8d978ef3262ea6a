use Rattle.std.proofs.Common.{◌∙◌, ap, Err}
use Rattle.std.proofs.lemmas.Result.{err_from_is_err_and}
use Rattle.s7_cli.specs.declared.bound_command.BoundText.{BoundText}
use Rattle.s7_cli.proofs.BoundLemmas.{bound-refused}
use Rattle.s7_cli.proofs.bound_command.check_bound.Goals as goal

pub returns-in_err-loaded-clause-refused : goal.returns-in_err-loaded-clause-refused
returns-in_err-loaded-clause-refused c =
    let fault = err_from_is_err_and c.from_residual.result c.from_residual.ensures.1 in
    bound-refused BoundText c.args.image.now c.in_err-loaded.field-0.0 _ (fault.1 ∙ ap Err fault.2) c.in_err-loaded.ensures.refused
