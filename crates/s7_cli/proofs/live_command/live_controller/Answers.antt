use Rattle.std.proofs.Common.{◌∙◌, ap, subst, Err, List, arith, map}
use Rattle.std.proofs.lemmas.Result.{err_from_is_err_and}
use Rattle.var_access.specs.declared.Entry.{Entry}
use Rattle.s7_cli.specs.declared.command_checks.LiveWork.{LiveWork}
use Rattle.s7_cli.specs.LiveTexts.{LiveTextSays}
use Rattle.s7_cli.specs.Living.{IsLive}
use Rattle.s7_cli.proofs.LiveLemmas.{live-said, refused-on}
use Rattle.s7_cli.proofs.live_command.live_controller.Goals as goal

pub returns-in_err-program-clause-refused : goal.returns-in_err-program-clause-refused
returns-in_err-program-clause-refused g c =
    let fault = err_from_is_err_and c.from_residual.result c.from_residual.ensures.1 in
    refused-on LiveWork _ (LiveTextSays c.args.steps c.args.text.now) _ _ (fault.1 ∙ ap Err fault.2) (c.in_err-program.ensures.refused c.args.steps)

pub returns-clause-says : goal.returns-clause-says
returns-clause-says g c =
    let p = c.in_ok-program.field-0.program in
    let stimuli = c.in_ok-program.field-0.stimuli.items in
    let scripts = map (λ v. v.items) c.in_ok-program.field-0.scripts.items in
    let made = c.in_ok-live_run.ensures in
    let history = c.in_ok-live_run.field-0.history in
    live-said c.args.steps c.args.text.now p _ stimuli scripts history made.program c.in_ok-program.ensures.finds
    (subst (λ (es : List Entry). IsLive p c.args.steps es scripts history) c.deref.ensures.value
    (subst (λ ss. IsLive p c.args.steps c.deref.result.now (map (λ v. v.items) ss) history) c.deref-2.ensures.value made.live))
    (c.written_is_read.ensures p.program.names history made.regular (omega (arith, made.steps, c.requires.steps)))
