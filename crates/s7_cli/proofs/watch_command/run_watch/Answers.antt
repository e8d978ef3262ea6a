use Rattle.std.proofs.Common.{◌∙◌, ap, subst, Err, List, arith, map}
use Rattle.std.proofs.lemmas.Result.{err_from_is_err_and}
use Rattle.var_access.specs.declared.Entry.{Entry}
use Rattle.s7_cli.specs.declared.watch_checks.WatchWork.{WatchWork}
use Rattle.s7_cli.specs.Living.{IsLive}
use Rattle.s7_cli.specs.WatchTexts.{WatchTextSays}
use Rattle.s7_cli.specs.Watching.{watch_lists}
use Rattle.s7_cli.proofs.LiveLemmas.{refused-on}
use Rattle.s7_cli.proofs.WatchTextLemmas.{watch-said}
use Rattle.s7_cli.proofs.watch_command.run_watch.Goals as goal

pub returns-in_err-program-clause-refused : goal.returns-in_err-program-clause-refused
returns-in_err-program-clause-refused g c =
    let fault = err_from_is_err_and c.from_residual.result c.from_residual.ensures.1 in
    refused-on WatchWork _ (WatchTextSays c.args.steps c.args.text.now) _ _ (fault.1 ∙ ap Err fault.2) (c.in_err-program.ensures.refused c.args.steps)

pub returns-clause-says : goal.returns-clause-says
returns-clause-says g c =
    let w = c.in_ok-program.field-0 in
    let p = w.program in
    let stimuli = w.stimuli.items in
    let scripts = map (λ v. v.items) w.scripts.items in
    let made = c.in_ok-controller.ensures in
    let history = c.in_ok-controller.controller.history in
    watch-said c.args.steps c.args.text.now p _ stimuli w.vars scripts history c.in_ok-controller.views.items made.program c.in_ok-program.ensures.finds
    (subst (λ (es : List Entry). IsLive p c.args.steps es (watch_lists 100 scripts w.vars) history) c.deref.ensures.value made.live)
    (c.written_is_read.ensures p.program.names history made.regular (omega (arith, made.steps, c.requires.steps)))
    made.views
