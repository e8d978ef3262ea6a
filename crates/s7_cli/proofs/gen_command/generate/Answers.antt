use Rattle.std.proofs.Common.{◌≡◌, refl, ◌∙◌, ap, subst, List, [], ℕ, length, Ok, Err}
use Rattle.std.proofs.lemmas.Result.{err_from_is_err_and}
use Rattle.plc_base.specs.declared.Profile.{Profile}
use Rattle.plc_base.specs.declared.Profile.TheVariants.{Large}
use Rattle.generator.specs.History.{generated_history}
use Rattle.image_file.specs.LoadedProgram.{LoadedProgram}
use Rattle.machine.specs.Flat.{code_of}
use Rattle.var_access.specs.declared.Entry.{Entry}
use Rattle.controller.specs.Recording.{Recording}
use Rattle.controller.specs.Replay.{replay}
use Rattle.controller.specs.ReplayResult.{entry_events, final_state}
use Rattle.s7_cli.specs.Answer.{CallAnswer}
use Rattle.s7_cli.specs.Command.{Gen}
use Rattle.s7_cli.specs.Ends.{sink_moments}
use Rattle.s7_cli.specs.GenText.{summary_of, summary_text}
use Rattle.s7_cli.specs.Inner.{TextWritten}
use Rattle.s7_cli.specs.Says.{GenSays}
use Rattle.s7_cli.proofs.ComesLemmas.{comes-refused, comes-written, unchanged}
use Rattle.s7_cli.proofs.SummaryLemmas.{summary-kept}
use Rattle.s7_cli.proofs.gen_command.generate.Goals as goal

pub returns-in_err-program : goal.returns-in_err-program
returns-in_err-program g c = λ files.
    let fault = err_from_is_err_and c.from_residual.result c.from_residual.ensures.1 in
    comes-refused LoadedProgram (Gen c.args.number) files files _ [] (GenSays c.args.number) _ _ (fault.1 ∙ ap Err fault.2)
    (record { same = unchanged files; hold = tt })
    (λ (a : CallAnswer) said. said)
    c.in_err-program.ensures.refused

pub returns : goal.returns
returns g c = λ files.
    let number : ℕ = c.args.number in
    let entries : List Entry = c.in_ok-entries.entries.entries in
    let runs = c.in_ok-program.ensures.keeps.runs in
    let running = code_of c.in_ok-program.program.program in
    let line : List ℕ = c.as_slice.result.now in
    let is : line ≡ summary_text number Large runs.0 (generated_history number) =
    c.as_slice.ensures ∙ c.summary_line.ensures
    ∙ ap (λ (r : Recording). summary_of number (length r.history) (final_state r)) c.in_ok-controller.ensures.ok
    ∙ ap (λ (f : Profile). summary_of number (length entries) (replay f running (entry_events entries))) c.in_ok-program.ensures.large
    ∙ summary-kept number (length entries) Large runs.0 running runs.2 (entry_events entries)
    ∙ ap (λ (es : List Entry). summary_text number Large runs.0 es) c.in_ok-entries.ensures.entries in
    comes-written (Gen number) files files _ [] (summary_text number Large runs.0 (generated_history number)) _ refl
    (record { same = unchanged files; hold = tt })
    (Ok runs.0, runs.1, refl)
    (subst
    (λ (t : List ℕ). TextWritten t (sink_moments (g.K.Sink.shown c.args.out.now) (g.K.Sink.shown c.write_text.new.out)) c.write_text.result)
    is c.write_text.ensures)
