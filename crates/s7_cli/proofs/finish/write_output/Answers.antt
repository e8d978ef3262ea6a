use Rattle.std.proofs.Common.{ap, ◌∙◌, Err}
use Rattle.std.proofs.lemmas.Result.{err_from_is_err_and}
use Rattle.s7_cli.specs.Lines.{ok_line}
use Rattle.s7_cli.proofs.OutputLemmas.{comes-output, comes-unwritten}
use Rattle.s7_cli.proofs.finish.write_output.Goals as goal

pub returns-in_err-write_file : goal.returns-in_err-write_file
returns-in_err-write_file g c k contents is start read =
    let fault = err_from_is_err_and c.from_residual.result c.from_residual.ensures.1 in
    comes-unwritten k start _ _ _ contents c.args.name.now c.args.bytes.now _ _ (fault.1 ∙ ap Err fault.2) is.outputs read is.writes
    c.in_err-write_file.ensures

pub returns : goal.returns
unfolding ok_line
returns g c k contents is start read =
    comes-output k start _ _ _ contents c.args.name.now c.args.bytes.now ok_line _ is.outputs read is.writes c.in_ok-write_file.ensures is.says
    c.write_text.ensures
