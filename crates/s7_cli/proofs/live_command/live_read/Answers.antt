use Rattle.std.proofs.Common.{◌∙◌, ap, refl, Err}
use Rattle.std.proofs.lemmas.Result.{err_from_is_err_and}
use Rattle.controller.specs.Recording.{Recording}
use Rattle.s7_cli.specs.Answer.{CallAnswer}
use Rattle.s7_cli.specs.Command.{Live}
use Rattle.s7_cli.specs.LiveSays.{live_text}
use Rattle.s7_cli.specs.LiveTexts.{LiveTextSays, live_contents}
use Rattle.s7_cli.specs.run_text.Behind.{program_of_recording}
use Rattle.s7_cli.proofs.ComesLemmas.{comes-refused, comes-written}
use Rattle.s7_cli.proofs.live_command.live_read.Goals as goal

pub returns-in_err-controller : goal.returns-in_err-controller
returns-in_err-controller g c img stim ops at start read =
    let fault = err_from_is_err_and c.from_residual.result c.from_residual.ensures.1 in
    comes-refused Recording (Live img stim ops c.args.steps) start at _ (live_contents c.args.text.now) (LiveTextSays c.args.steps c.args.text.now) _ _
    (fault.1 ∙ ap Err fault.2) read (λ (a : CallAnswer) said. said) c.in_err-controller.ensures.refused

pub returns : goal.returns
returns g c img stim ops at start read =
    let made = c.in_ok-controller.controller in
    comes-written (Live img stim ops c.args.steps) start at _ (live_contents c.args.text.now) (live_text (program_of_recording made) made.history) _ refl
    read c.in_ok-controller.ensures.says (c.outcome_of_write.ensures _ _ _ c.write_live.ensures)
