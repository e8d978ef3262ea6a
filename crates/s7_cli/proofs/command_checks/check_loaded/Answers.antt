use Rattle.std.proofs.Common.{◌∙◌, Bool, IfOk, ap, refl, sym, subst, ℕ, List, Err}
use Rattle.std.proofs.lemmas.Result.{err_from_is_err_and}
use Rattle.image_file.specs.LoadedProgram.{LoadedProgram}
use Rattle.plc_base.specs.declared.Profile.TheVariants.{Large}
use Rattle.sem_kept.specs.Agreement.{KeepsSource}
use Rattle.s7_cli.specs.Inner.{SaysRefusal}
use Rattle.s7_cli.specs.Says.{RefusedProgram}
use Rattle.s7_cli.specs.Texts.{symbols_text_of}
use Rattle.s7_cli.specs.Translating.{KeepsText}
use Rattle.s7_cli.proofs.SaysLemmas.{program-refused}
use Rattle.s7_cli.proofs.command_checks.check_loaded.Goals as goal

pub returns-then-german-clause-keeps : goal.returns-then-german-clause-keeps
returns-then-german-clause-keeps c =
    subst (λ (g : Bool). IfOk c.compiled_german.result (λ l. KeepsText g c.args.text.now.source.items (symbols_text_of c.args.text.now) l.program))
    (sym c.if-german.true) c.compiled_german.ensures.keeps

pub returns-in_err-compiled-clause-refused : goal.returns-in_err-compiled-clause-refused
returns-in_err-compiled-clause-refused c =
    let fault = err_from_is_err_and c.from_residual.result c.from_residual.ensures.1 in
    subst (λ (g : Bool). SaysRefusal (RefusedProgram g c.args.text.now.source.items (symbols_text_of c.args.text.now)) c.from_residual.result)
    (sym c.if-german.false)
    (program-refused LoadedProgram _ _ _ _ c.in_err-compiled.field-0.0 _ c.deref.ensures.value c.symbols.ensures
    (fault.1 ∙ ap Err fault.2) c.in_err-compiled.ensures.refused)

pub returns-clause-keeps : goal.returns-clause-keeps
returns-clause-keeps c =
    let source : List ℕ = c.args.text.now.source.items in
    let symbols : List ℕ = symbols_text_of c.args.text.now in
    let p = c.in_ok-compiled.field-0.program in
    subst (λ (g : Bool). KeepsText g source symbols p) (sym c.if-german.false) (
      source,
      refl,
      subst (λ (s : List ℕ). KeepsSource Large s symbols p) c.deref.ensures.value
          (subst (λ (y : List ℕ). KeepsSource Large c.deref.result.now y p) c.symbols.ensures c.in_ok-compiled.ensures.ok),
    )
