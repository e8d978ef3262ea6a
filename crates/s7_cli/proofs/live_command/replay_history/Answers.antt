use Rattle.std.proofs.Common.{◌∙◌, ap, ap₂, ℕ, List, Err}
use Rattle.std.proofs.lemmas.Result.{err_from_is_err_and}
use Rattle.image_file.specs.LoadedProgram.{LoadedProgram}
use Rattle.machine.specs.Flat.{code_of}
use Rattle.var_access.specs.declared.Entry.{Entry}
use Rattle.s7_cli.specs.run_text.Behind.{program_of_recording}
use Rattle.s7_cli.specs.run_text.RunText.{run_text}
use Rattle.s7_cli.proofs.run.WritingLemmas.{goes-first, goes-last, wrote-none}
use Rattle.s7_cli.proofs.live_command.replay_history.Goals as goal

abbrev run_of : LoadedProgram → List Entry → List ℕ
run_of loaded history = run_text loaded.profile (code_of loaded.program) history

pub returns-in_err-entries : goal.returns-in_err-entries
returns-in_err-entries g c =
    let handed = err_from_is_err_and c.from_residual.result c.from_residual.ensures.1 in
    wrote-none _ _ _ (handed.1 ∙ ap Err handed.2)

pub returns : goal.returns
returns g c =
    let p = program_of_recording c.args.controller in
    let h = c.args.controller.history in
    goes-last _ (run_of p h) _ _ _ _ _ (goes-first (run_of p h) _)
    (ap₂ run_of c.into_program.ensures (c.in_ok-entries.ensures ∙ c.runs.ensures.out))
    c.replay_text.ensures
