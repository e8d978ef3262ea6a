use Rattle.std.proofs.Common.{◌∙◌, true, ap, sym, subst, List, ℕ, Err}
use Rattle.std.proofs.lemmas.Result.{err_from_is_err_and}
use Rattle.plc_base.specs.declared.Profile.TheVariants.{Large}
use Rattle.sem_kept.specs.Agreement.{AreFiles, KeepsSourceIn}
use Rattle.sem_kept.specs.Compiles.{CompilesTo}
use Rattle.stl_symbols.specs.declared.languages.Language.TheVariants.{German}
use Rattle.s7_cli.specs.Texts.{symbols_text_of}
use Rattle.s7_cli.specs.Translating.{IsEnglish}
use Rattle.s7_cli.specs.declared.translating.EnglishProgram.{EnglishProgram}
use Rattle.s7_cli.proofs.SaysLemmas.{english-refused, text-refused}
use Rattle.s7_cli.proofs.translating.german_program.Goals as goal

pub returns-in_err-source-clause-refused : goal.returns-in_err-source-clause-refused
returns-in_err-source-clause-refused c =
    let fault = err_from_is_err_and c.from_residual.result c.from_residual.ensures.1 in
    english-refused _ EnglishProgram c.args.text.now.source.items (symbols_text_of c.args.text.now) _ _ (fault.1 ∙ ap Err fault.2) c.in_err-source.ensures.refused

pub returns-in_err-program_with_symbols-clause-refused : goal.returns-in_err-program_with_symbols-clause-refused
returns-in_err-program_with_symbols-clause-refused c =
    let fault = err_from_is_err_and c.from_residual-in_err-program_with_symbols.result c.from_residual-in_err-program_with_symbols.ensures.1 in
    text-refused _ c.args.text.now.source.items (symbols_text_of c.args.text.now) c.deref-2.result.now c.in_ok-source.field-0.symbols c.in_err-program_with_symbols.field-0.0 _
    (fault.1 ∙ ap Err fault.2)
    c.in_ok-source.ensures.symbols
    (subst (λ (t : List ℕ). IsEnglish true c.args.text.now.source.items t) (sym c.deref-2.ensures.value)
    c.in_ok-source.ensures.english)
    c.in_err-program_with_symbols.ensures.refused

pub returns-clause-keeps : goal.returns-clause-keeps
returns-clause-keeps c =
    let given : List ℕ = symbols_text_of c.args.text.now in (
      c.in_ok-source.field-0.source.items,
      c.in_ok-source.ensures.english,
      subst (λ (t : List ℕ). KeepsSourceIn German Large t given c.in_ok-program_with_symbols.field-0) c.deref-2.ensures.value
          (c.in_ok-program_with_symbols.ensures.ok German given
          (subst (AreFiles c.deref-2.result.now) c.symbols.ensures
          (subst (λ (t : List ℕ). AreFiles t c.symbols.result.now) (c.deref.ensures.value ∙ sym c.deref-2.ensures.value) c.law_of_files.ensures))
          c.in_ok-source.ensures.symbols),
    )

pub program_with_symbols-requires-clause-read : goal.program_with_symbols-requires-clause-read
program_with_symbols-requires-clause-read c = (
  German,
  symbols_text_of c.args.text.now,
  subst (AreFiles c.deref-2.result.now) c.symbols.ensures
      (subst (λ (t : List ℕ). AreFiles t c.symbols.result.now) (c.deref.ensures.value ∙ sym c.deref-2.ensures.value) c.law_of_files.ensures),
  c.in_ok-source.ensures.symbols,
)

pub returns-clause-made : goal.returns-clause-made
unfolding returns-clause-keeps
returns-clause-made c =
    let given : List ℕ = symbols_text_of c.args.text.now in
    let kept = returns-clause-keeps c in (
      kept.0,
      kept.1,
      kept.2,
      subst (λ (t : List ℕ). CompilesTo German t given c.in_ok-program_with_symbols.field-0) c.deref-2.ensures.value
          (c.in_ok-program_with_symbols.ensures.compiles German given c.in_ok-source.ensures.symbols),
      subst (AreFiles c.in_ok-source.field-0.source.items) c.symbols.ensures
          (subst (λ (t : List ℕ). AreFiles t c.symbols.result.now) c.deref.ensures.value c.law_of_files.ensures),
    )
