use Rattle.std.proofs.Common.{ap, refl, ◌∙◌, Err}
use Rattle.std.proofs.lemmas.Result.{err_from_is_err_and}
use Rattle.s7_cli.specs.Answer.{CallAnswer}
use Rattle.s7_cli.specs.Command.{Check}
use Rattle.s7_cli.specs.Lines.{ok_line}
use Rattle.s7_cli.specs.Says.{RefusedProgram}
use Rattle.s7_cli.specs.Texts.{file_contents_of, symbols_file, symbols_text_of}
use Rattle.s7_cli.proofs.ComesLemmas.{comes-refused, comes-written}
use Rattle.s7_cli.proofs.SaysLemmas.{check-said, checks-ok, refused-checks}
use Rattle.s7_cli.proofs.checking.check_text.Goals as goal

pub returns-in_err-check_program : goal.returns-in_err-check_program
returns-in_err-check_program g c src symbols at start read =
    let fault = err_from_is_err_and c.from_residual.result c.from_residual.ensures.1 in
    let text = c.args.text.now in
    comes-refused Unit (Check src symbols c.args.german) start at _ (file_contents_of text)
    (RefusedProgram c.args.german text.source.items (symbols_text_of text)) _ _ (fault.1 ∙ ap Err fault.2) read
    (λ (a : CallAnswer) holds. check-said start.contents src symbols c.args.german text.source.items (symbols_file text) a read.hold.1
    (refused-checks c.args.german text.source.items (symbols_text_of text) a holds))
    c.in_err-check_program.ensures.refused

pub returns : goal.returns
unfolding ok_line
returns g c src symbols at start read =
    let text = c.args.text.now in
    let accepted = c.in_ok-check_program.ensures.accepted in
    let runs = accepted.2.1.runs in
    comes-written (Check src symbols c.args.german) start at _ (file_contents_of text) ok_line _ refl read
    (check-said start.contents src symbols c.args.german text.source.items (symbols_file text) _ read.hold.1
    (checks-ok c.args.german text.source.items (symbols_text_of text) accepted.0 runs.0 runs.1 accepted.1))
    c.write_text.ensures
