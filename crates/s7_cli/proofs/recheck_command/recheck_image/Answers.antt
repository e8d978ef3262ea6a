use Rattle.std.proofs.Common.{ap, refl, ◌∙◌, [], ◌∷◌, Err}
use Rattle.std.proofs.lemmas.Result.{err_from_is_err_and}
use Rattle.s7_cli.specs.Answer.{CallAnswer}
use Rattle.s7_cli.specs.BoundSays.{RecheckSays}
use Rattle.s7_cli.specs.Command.{Recheck}
use Rattle.s7_cli.specs.Lines.{ok_line}
use Rattle.s7_cli.proofs.BoundLemmas.{yes-said}
use Rattle.s7_cli.proofs.ComesLemmas.{comes-refused, comes-written}
use Rattle.s7_cli.proofs.recheck_command.recheck_image.Goals as goal

pub returns-in_err-check_recheck : goal.returns-in_err-check_recheck
returns-in_err-check_recheck g c img cert at start read =
    let fault = err_from_is_err_and c.from_residual.result c.from_residual.ensures.1 in
    comes-refused Unit (Recheck img cert) start at _ (c.args.image.now ∷ c.args.certificate.now ∷ [])
    (RecheckSays c.args.image.now c.args.certificate.now) _ _ (fault.1 ∙ ap Err fault.2) read (λ (a : CallAnswer) said. said)
    c.in_err-check_recheck.ensures.refused

pub returns : goal.returns
unfolding ok_line
returns g c img cert at start read =
    comes-written (Recheck img cert) start at _ (c.args.image.now ∷ c.args.certificate.now ∷ []) ok_line _ refl read
    (yes-said c.args.image.now c.args.certificate.now c.in_ok-check_recheck.ensures.holds)
    c.write_text.ensures
