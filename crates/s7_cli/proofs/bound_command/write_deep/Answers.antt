use Rattle.std.proofs.Common.{ap, ◌∙◌, Err}
use Rattle.std.proofs.lemmas.Result.{err_from_is_err_and}
use Rattle.s7_cli.proofs.BoundLemmas.{deep-unwritten, deep-written}
use Rattle.s7_cli.proofs.bound_command.write_deep.Goals as goal

pub returns-in_err-write_text : goal.returns-in_err-write_text
returns-in_err-write_text g c img cert image at line start read =
    let fault = err_from_is_err_and c.from_residual.result c.from_residual.ensures.1 in
    deep-unwritten img cert start at _ image c.args.line.now _ _ (fault.1 ∙ ap Err fault.2) read line c.in_err-write_text.ensures

pub returns : goal.returns
returns g c img cert image at line start read = deep-written img cert start at _ image c.args.line.now read line c.in_ok-write_text.ensures
