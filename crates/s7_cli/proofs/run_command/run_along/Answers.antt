use Rattle.std.proofs.Common.{ap, refl, sym, ◌∙◌, [], ◌∷◌, Ok, Err}
use Rattle.std.proofs.lemmas.Result.{err_from_is_err_and}
use Rattle.image_file.specs.LoadedProgram.{LoadedProgram}
use Rattle.machine.specs.Flat.{code_of}
use Rattle.var_access.specs.History.{History as EntryHistory}
use Rattle.s7_cli.specs.run_text.RunText.{run_text}
use Rattle.s7_cli.specs.Answer.{CallAnswer}
use Rattle.s7_cli.specs.Command.{Run}
use Rattle.s7_cli.specs.Says.{RunSays, run_loaded_answer}
use Rattle.s7_cli.proofs.ComesLemmas.{comes-refused, comes-written}
use Rattle.s7_cli.proofs.run_command.run_along.Goals as goal

pub returns-in_err-program : goal.returns-in_err-program
returns-in_err-program g c img hist at start read =
    let fault = err_from_is_err_and c.from_residual.result c.from_residual.ensures.1 in
    comes-refused (LoadedProgram × EntryHistory) (Run img hist) start at _ (c.args.image.now ∷ c.args.history.now ∷ [])
    (RunSays c.args.image.now c.args.history.now) _ _ (fault.1 ∙ ap Err fault.2) read (λ (a : CallAnswer) said. said)
    c.in_err-program.ensures.refused

pub returns : goal.returns
returns g c img hist at start read =
    let l : LoadedProgram = c.in_ok-program.program in
    let entries = c.in_ok-program.entries.entries in
    comes-written (Run img hist) start at _ (c.args.image.now ∷ c.args.history.now ∷ []) (run_text l.profile (code_of l.program) entries) _ refl read
    (Ok l, c.in_ok-program.ensures.loads, ap (run_loaded_answer l) (sym c.in_ok-program.ensures.spells))
    (c.outcome_of_write.ensures _ _ _ c.replay_text.ensures)
