use Rattle.std.proofs.Common.{◌∙◌, ap, subst, Err, List}
use Rattle.std.proofs.lemmas.Result.{err_from_is_err_and}
use Rattle.flat_code.specs.Programs.{NameEntry}
use Rattle.image_file.specs.LoadedProgram.{LoadedProgram}
use Rattle.var_access.specs.History.{History}
use Rattle.event_text.specs.TextFault.{IsTextFault}
use Rattle.event_text.specs.Texts.{history_of_text}
use Rattle.s7_cli.specs.Answer.{CallAnswer}
use Rattle.s7_cli.specs.Says.{GoSays, RefusedProgram}
use Rattle.s7_cli.specs.Texts.{symbols_text_of}
use Rattle.s7_cli.proofs.RefusedLemmas.{refused-more}
use Rattle.s7_cli.proofs.SaysLemmas.{history-refused, refused-goes}
use Rattle.s7_cli.proofs.command_checks.check_with_history.Goals as goal

pub returns-in_err-program-clause-refused : goal.returns-in_err-program-clause-refused
returns-in_err-program-clause-refused c =
    let fault = err_from_is_err_and c.from_residual.result c.from_residual.ensures.1 in
    let source = c.args.text.now.source.items in
    let symbols = symbols_text_of c.args.text.now in
    refused-more LoadedProgram (LoadedProgram × History) (RefusedProgram c.args.german source symbols) (GoSays c.args.german source symbols c.args.history.now) _ _
    (fault.1 ∙ ap Err fault.2) (λ (a : CallAnswer) holds. refused-goes c.args.german source symbols c.args.history.now a holds)
    c.in_err-program.ensures.refused

pub returns-in_err-entries-clause-refused : goal.returns-in_err-entries-clause-refused
returns-in_err-entries-clause-refused c =
    let fault = err_from_is_err_and c.from_residual-in_err-entries.result c.from_residual-in_err-entries.ensures.1 in
    history-refused (LoadedProgram × History) c.args.german _ _ _ c.args.history.now _ _
    (fault.1 ∙ ap Err fault.2) c.in_ok-program.ensures.keeps
    (subst (λ (names : List NameEntry). IsTextFault (history_of_text names c.args.history.now) c.in_err-entries.field-0.0)
    c.names.ensures c.in_err-entries.ensures.refused)
