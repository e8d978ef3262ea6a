use Rattle.std.proofs.Common.{◌∙◌, true, ap, sym, subst, List, ℕ, Err}
use Rattle.std.proofs.lemmas.Result.{err_from_is_err_and}
use Rattle.sem_kept.specs.Agreement.{AreFiles}
use Rattle.stl_symbols.specs.declared.languages.Language.TheVariants.{German}
use Rattle.s7_cli.specs.Compiling.{HasProgramIn}
use Rattle.s7_cli.specs.Texts.{symbols_text_of}
use Rattle.s7_cli.specs.Translating.{IsEnglish}
use Rattle.s7_cli.specs.declared.translating.EnglishProgram.{EnglishProgram}
use Rattle.s7_cli.proofs.SaysLemmas.{english-refused, text-refused}
use Rattle.s7_cli.proofs.translating.check_german_source.Goals as goal

pub returns-in_err-source-clause-refused : goal.returns-in_err-source-clause-refused
returns-in_err-source-clause-refused c =
    let fault = err_from_is_err_and c.from_residual.result c.from_residual.ensures.1 in
    english-refused _ EnglishProgram c.args.text.now.source.items (symbols_text_of c.args.text.now) _ _ (fault.1 ∙ ap Err fault.2) c.in_err-source.ensures.refused

pub returns-in_err-check_source_with-clause-refused : goal.returns-in_err-check_source_with-clause-refused
returns-in_err-check_source_with-clause-refused c =
    let fault = err_from_is_err_and c.from_residual-in_err-check_source_with.result c.from_residual-in_err-check_source_with.ensures.1 in
    text-refused _ c.args.text.now.source.items (symbols_text_of c.args.text.now) c.deref-2.result.now c.in_ok-source.field-0.symbols c.in_err-check_source_with.field-0.0 _
    (fault.1 ∙ ap Err fault.2)
    c.in_ok-source.ensures.symbols
    (subst (λ (t : List ℕ). IsEnglish true c.args.text.now.source.items t) (sym c.deref-2.ensures.value)
    c.in_ok-source.ensures.english)
    c.in_err-check_source_with.ensures.refused

pub returns-clause-accepted : goal.returns-clause-accepted
returns-clause-accepted c =
    let given : List ℕ = symbols_text_of c.args.text.now in (
      c.in_ok-source.field-0.source.items,
      c.in_ok-source.ensures.english,
      subst (λ (t : List ℕ). HasProgramIn German t given) c.deref-2.ensures.value
          (c.in_ok-check_source_with.ensures.ok German given
          (subst (AreFiles c.deref-2.result.now) c.symbols.ensures
          (subst (λ (t : List ℕ). AreFiles t c.symbols.result.now) (c.deref.ensures.value ∙ sym c.deref-2.ensures.value) c.law_of_files.ensures))
          c.in_ok-source.ensures.symbols),
    )
