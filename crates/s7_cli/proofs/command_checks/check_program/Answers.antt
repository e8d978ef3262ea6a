use Rattle.std.proofs.Common.{◌∙◌, Bool, IfOk, ap, refl, sym, subst, ℕ, List, Err}
use Rattle.std.proofs.lemmas.Result.{err_from_is_err_and}
use Rattle.s7_cli.specs.Compiling.{HasProgram}
use Rattle.s7_cli.specs.Inner.{SaysRefusal}
use Rattle.s7_cli.specs.Says.{RefusedProgram}
use Rattle.s7_cli.specs.Texts.{symbols_text_of}
use Rattle.s7_cli.specs.Translating.{HasProgramOf}
use Rattle.s7_cli.proofs.SaysLemmas.{program-refused}
use Rattle.s7_cli.proofs.command_checks.check_program.Goals as goal

pub returns-then-german-clause-accepted : goal.returns-then-german-clause-accepted
returns-then-german-clause-accepted c =
    subst (λ (g : Bool). IfOk c.check_german_source.result (λ done. HasProgramOf g c.args.text.now.source.items (symbols_text_of c.args.text.now)))
    (sym c.if-german.true) c.check_german_source.ensures.accepted

pub returns-in_err-check_source-clause-refused : goal.returns-in_err-check_source-clause-refused
returns-in_err-check_source-clause-refused c =
    let fault = err_from_is_err_and c.from_residual.result c.from_residual.ensures.1 in
    subst (λ (g : Bool). SaysRefusal (RefusedProgram g c.args.text.now.source.items (symbols_text_of c.args.text.now)) c.from_residual.result)
    (sym c.if-german.false)
    (program-refused Unit _ _ _ _ c.in_err-check_source.field-0.0 _ c.deref.ensures.value c.symbols.ensures
    (fault.1 ∙ ap Err fault.2) c.in_err-check_source.ensures.refused)

pub returns-clause-accepted : goal.returns-clause-accepted
returns-clause-accepted c =
    let source : List ℕ = c.args.text.now.source.items in
    let symbols : List ℕ = symbols_text_of c.args.text.now in
    subst (λ (g : Bool). HasProgramOf g source symbols) (sym c.if-german.false) (
      source,
      refl,
      subst (λ (s : List ℕ). HasProgram s symbols) c.deref.ensures.value
          (subst (HasProgram c.deref.result.now) c.symbols.ensures c.in_ok-check_source.ensures.ok),
    )
