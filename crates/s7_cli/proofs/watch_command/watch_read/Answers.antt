use Rattle.std.proofs.Common.{◌∙◌, ap, refl, Err}
use Rattle.std.proofs.lemmas.Result.{err_from_is_err_and}
use Rattle.s7_cli.specs.declared.watch_command.WatchOutcome.{WatchOutcome}
use Rattle.s7_cli.specs.Answer.{CallAnswer}
use Rattle.s7_cli.specs.Command.{Watch}
use Rattle.s7_cli.specs.WatchSays.{watch_text}
use Rattle.s7_cli.specs.WatchTexts.{WatchTextSays, watch_contents}
use Rattle.s7_cli.specs.run_text.Behind.{program_of_recording}
use Rattle.s7_cli.proofs.ComesLemmas.{comes-refused, comes-written}
use Rattle.s7_cli.proofs.watch_command.watch_read.Goals as goal

pub returns-in_err-watched : goal.returns-in_err-watched
returns-in_err-watched g c img stim vars ops at start read =
    let fault = err_from_is_err_and c.from_residual.result c.from_residual.ensures.1 in
    comes-refused WatchOutcome (Watch img stim vars ops c.args.steps) start at _ (watch_contents c.args.text.now) (WatchTextSays c.args.steps c.args.text.now) _ _
    (fault.1 ∙ ap Err fault.2) read (λ (a : CallAnswer) said. said) c.in_err-watched.ensures.refused

pub returns : goal.returns
returns g c img stim vars ops at start read =
    let made = c.in_ok-watched.watched in
    comes-written (Watch img stim vars ops c.args.steps) start at _ (watch_contents c.args.text.now)
    (watch_text (program_of_recording made.controller) made.controller.history made.vars made.views.items) _ refl
    read c.in_ok-watched.ensures.says (c.outcome_of_write.ensures _ _ _ c.write_watch.ensures)
