use Rattle.std.proofs.Common.{ap, ◌∙◌, Err}
use Rattle.std.proofs.lemmas.Result.{err_from_is_err_and}
use Rattle.s7_cli.specs.Inner.{written_file}
use Rattle.s7_cli.specs.Lines.{ok_line}
use Rattle.s7_cli.proofs.OutputsLemmas.{comes-outputs, first-unwritten, second-unwritten}
use Rattle.s7_cli.proofs.finish.write_outputs.Goals as goal

pub returns-in_err-write_file : goal.returns-in_err-write_file
returns-in_err-write_file g c k contents are start read =
    let fault = err_from_is_err_and c.from_residual.result c.from_residual.ensures.1 in
    first-unwritten k start _ _ _ contents (written_file c.args.first.now) (written_file c.args.second.now) _ _ (fault.1 ∙ ap Err fault.2) are read
    c.in_err-write_file.ensures

pub returns-in_err-write_file-2 : goal.returns-in_err-write_file-2
returns-in_err-write_file-2 g c k contents are start read =
    let fault = err_from_is_err_and c.from_residual-in_err-write_file-2.result c.from_residual-in_err-write_file-2.ensures.1 in
    second-unwritten k start _ _ _ _ contents (written_file c.args.first.now) (written_file c.args.second.now) _ _ (fault.1 ∙ ap Err fault.2) are read
    c.in_ok-write_file.ensures c.in_err-write_file-2.ensures

pub returns : goal.returns
unfolding ok_line
returns g c k contents are start read =
    comes-outputs k start _ _ _ _ contents (written_file c.args.first.now) (written_file c.args.second.now) _ are read c.in_ok-write_file.ensures
    c.in_ok-write_file-2.ensures c.write_text.ensures
