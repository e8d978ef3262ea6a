use Rattle.std.proofs.Common.{refl, sym, subst, List, [], ◌∷◌, ℕ, Ok, inl}
use Rattle.s7_cli.specs.declared.bound_command.BoundText.{BoundText}
use Rattle.s7_cli.specs.Answer.{CallAnswer}
use Rattle.s7_cli.specs.BoundSays.{BoundSays, IsCertificate}
use Rattle.s7_cli.specs.BoundTexts.{IsChainLine}
use Rattle.s7_cli.specs.Command.{Bound}
use Rattle.s7_cli.proofs.ComesLemmas.{comes-refused}
use Rattle.s7_cli.proofs.bound_command.bound_image.Goals as goal

pub returns-in-Ok-Fits : goal.returns-in-Ok-Fits
returns-in-Ok-Fits g c img start read =
    let image : List ℕ = c.args.image.now in
    let certifies : IsCertificate c.in-Ok-Fits.certificate.items image = rw c.in-Ok-Fits.field-0-is at c.in-Ok-Fits.ensures.tells in
    c.write_output.ensures (Bound img c.args.cert.now) (image ∷ []) (record {
      outputs = refl;
      writes = (refl, subst (λ (bytes : List ℕ). IsCertificate bytes image) (sym c.deref.ensures.value) certifies);
      says = (Ok certifies.0, certifies.1, inl ((certifies.2, certifies.3), refl));
    }) start read

pub returns-in-Ok-Deep : goal.returns-in-Ok-Deep
returns-in-Ok-Deep g c img start read =
    let image : List ℕ = c.args.image.now in
    let line : IsChainLine c.in-Ok-Deep.line.items image = rw c.in-Ok-Deep.field-0-is at c.in-Ok-Deep.ensures.tells in
    c.write_deep.ensures img c.args.cert.now image _ (subst (λ (text : List ℕ). IsChainLine text image) (sym c.deref-in-Ok-Deep.ensures.value) line) start read

pub returns-in-Err : goal.returns-in-Err
returns-in-Err g c img start read =
    comes-refused BoundText (Bound img c.args.cert.now) start _ _ (c.args.image.now ∷ []) (BoundSays c.args.image.now) _ _
    refl read (λ (a : CallAnswer) said. said) c.in-Err.ensures.refused
