use Rattle.std.proofs.Common.{ap, refl, sym, subst, ◌∙◌, List, [], ◌∷◌, ℕ, Vec, Global, Ok, Err}
use Rattle.std.proofs.lemmas.Result.{err_from_is_err_and}
use Rattle.s7_cli.specs.Answer.{CallAnswer}
use Rattle.s7_cli.specs.Command.{Upgrade}
use Rattle.s7_cli.specs.Says.{IsUpgraded, UpgradeSays}
use Rattle.s7_cli.proofs.ComesLemmas.{comes-refused}
use Rattle.s7_cli.proofs.upgrade_command.upgrade_image.Goals as goal

pub returns-in_err-upgraded : goal.returns-in_err-upgraded
returns-in_err-upgraded g c img start read =
    let fault = err_from_is_err_and c.from_residual.result c.from_residual.ensures.1 in
    comes-refused (Vec ℕ Global) (Upgrade img c.args.img2.now) start _ _ (c.args.image.now ∷ []) (UpgradeSays c.args.image.now) _ _
    (fault.1 ∙ ap Err fault.2) read (λ (a : CallAnswer) said. said) c.in_err-upgraded.ensures.refused

pub returns : goal.returns
returns g c img start read =
    let image : List ℕ = c.args.image.now in
    let upgrades = c.in_ok-upgraded.ensures.upgrades in
    c.write_output.ensures (Upgrade img c.args.img2.now) (image ∷ []) (record {
      outputs = refl;
      writes = (refl, subst (λ (bytes : List ℕ). IsUpgraded bytes image) (sym c.deref.ensures.value) upgrades);
      says = (Ok upgrades.0, upgrades.1, refl);
    }) start read
