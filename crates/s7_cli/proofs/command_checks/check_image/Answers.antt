use Rattle.std.proofs.Common.{◌∙◌, Bool, IfOk, ap, refl, sym, subst, ℕ, List, Vec, Global, Err}
use Rattle.std.proofs.lemmas.Result.{err_from_is_err_and}
use Rattle.s7_cli.specs.Compiling.{IsImageOfEnglishSource}
use Rattle.s7_cli.specs.Inner.{SaysRefusal}
use Rattle.s7_cli.specs.Says.{RefusedProgram}
use Rattle.s7_cli.specs.Texts.{symbols_text_of}
use Rattle.s7_cli.specs.Translating.{IsSourceImage}
use Rattle.s7_cli.proofs.SaysLemmas.{program-refused}
use Rattle.s7_cli.proofs.command_checks.check_image.Goals as goal

pub returns-then-german-clause-keeps : goal.returns-then-german-clause-keeps
returns-then-german-clause-keeps c =
    subst (λ (g : Bool). IfOk c.image_german.result (λ v. IsSourceImage g v.items c.args.text.now.source.items (symbols_text_of c.args.text.now)))
    (sym c.if-german.true) c.image_german.ensures.keeps

pub returns-in_err-compiled_image-clause-refused : goal.returns-in_err-compiled_image-clause-refused
returns-in_err-compiled_image-clause-refused c =
    let fault = err_from_is_err_and c.from_residual.result c.from_residual.ensures.1 in
    subst (λ (g : Bool). SaysRefusal (RefusedProgram g c.args.text.now.source.items (symbols_text_of c.args.text.now)) c.from_residual.result)
    (sym c.if-german.false)
    (program-refused (Vec ℕ Global) _ _ _ _ c.in_err-compiled_image.field-0.0 _ c.deref.ensures.value c.symbols.ensures
    (fault.1 ∙ ap Err fault.2) c.in_err-compiled_image.ensures.refused)

pub returns-clause-keeps : goal.returns-clause-keeps
returns-clause-keeps c =
    let image : List ℕ = c.in_ok-compiled_image.field-0.items in
    let source : List ℕ = c.args.text.now.source.items in
    let symbols : List ℕ = symbols_text_of c.args.text.now in
    subst (λ (g : Bool). IsSourceImage g image source symbols) (sym c.if-german.false) (
      source,
      refl,
      subst (λ (s : List ℕ). IsImageOfEnglishSource image s symbols) c.deref.ensures.value
          (subst (IsImageOfEnglishSource image c.deref.result.now) c.symbols.ensures c.in_ok-compiled_image.ensures.ok),
    )
