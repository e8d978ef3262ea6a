use Rattle.std.proofs.Common.{◌∙◌, ap, subst, Err, List}
use Rattle.std.proofs.lemmas.Result.{err_from_is_err_and}
use Rattle.flat_code.specs.Programs.{NameEntry}
use Rattle.image_file.specs.LoadedProgram.{LoadedProgram}
use Rattle.var_access.specs.History.{History}
use Rattle.event_text.specs.TextFault.{IsTextFault}
use Rattle.event_text.specs.Texts.{history_of_text}
use Rattle.s7_cli.proofs.SaysLemmas.{image-refused, run-refused}
use Rattle.s7_cli.proofs.command_checks.check_run.Goals as goal

pub returns-in_err-program-clause-refused : goal.returns-in_err-program-clause-refused
returns-in_err-program-clause-refused c =
    let fault = err_from_is_err_and c.from_residual.result c.from_residual.ensures.1 in
    image-refused (LoadedProgram × History) c.args.image.now c.args.history.now c.in_err-program.field-0.0 _
    (fault.1 ∙ ap Err fault.2) c.in_err-program.ensures.refused

pub returns-in_err-entries-clause-refused : goal.returns-in_err-entries-clause-refused
returns-in_err-entries-clause-refused c =
    let fault = err_from_is_err_and c.from_residual-in_err-entries.result c.from_residual-in_err-entries.ensures.1 in
    let p = c.in_ok-program.program in
    run-refused (LoadedProgram × History) c.args.image.now p c.args.history.now _ _
    (fault.1 ∙ ap Err fault.2) c.in_ok-program.ensures.loads
    (subst (λ (names : List NameEntry). IsTextFault (history_of_text names c.args.history.now) c.in_err-entries.field-0.0)
    c.names.ensures c.in_err-entries.ensures.refused)
