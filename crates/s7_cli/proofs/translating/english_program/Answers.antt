use Rattle.std.proofs.Common.{◌∙◌, ap, subst, List, ℕ, Vec, Global, Ok, Err}
use Rattle.std.proofs.lemmas.Result.{err_from_is_err_and}
use Rattle.de_mnemonics.specs.Translation.{IsTranslation}
use Rattle.sem_kept.specs.Meaning.{HasSymbolsIn}
use Rattle.stl_symbols.specs.declared.languages.Language.TheVariants.{English, German}
use Rattle.s7_cli.specs.Compiling.{RefusesSymbols}
use Rattle.s7_cli.specs.Texts.{symbols_text_of}
use Rattle.s7_cli.proofs.SaysLemmas.{symbols-refused, translation-refused}
use Rattle.s7_cli.proofs.translating.english_program.Goals as goal

pub returns-in_err-symbols-clause-refused : goal.returns-in_err-symbols-clause-refused
returns-in_err-symbols-clause-refused c =
    let fault = err_from_is_err_and c.from_residual.result c.from_residual.ensures.1 in
    symbols-refused _ c.args.text.now.source.items (symbols_text_of c.args.text.now) c.in_err-symbols.field-0.0 _ (fault.1 ∙ ap Err fault.2)
    (subst (λ (y : List ℕ). RefusesSymbols German y c.in_err-symbols.field-0.0) c.symbols.ensures c.in_err-symbols.ensures.refused)

pub returns-in_err-source-clause-refused : goal.returns-in_err-source-clause-refused
returns-in_err-source-clause-refused c =
    let fault = err_from_is_err_and c.from_residual-in_err-source.result c.from_residual-in_err-source.ensures.1 in
    translation-refused _ (Vec ℕ Global) c.args.text.now.source.items c.deref.result.now (symbols_text_of c.args.text.now) c.in_ok-symbols.symbols _ _
    (fault.1 ∙ ap Err fault.2) c.deref.ensures.value
    (subst (λ (y : List ℕ). HasSymbolsIn German y (Ok c.in_ok-symbols.symbols)) c.symbols.ensures c.in_ok-symbols.ensures.ok)
    c.in_err-source.ensures.refused

pub returns-clause-english : goal.returns-clause-english
returns-clause-english c = (
  subst (λ (s : List ℕ). IsTranslation English s c.in_ok-source.source.items) c.deref.ensures.value c.in_ok-source.ensures.ok,
  c.in_ok-source.ensures.fits,
)

pub returns-clause-symbols : goal.returns-clause-symbols
returns-clause-symbols c = subst (λ (y : List ℕ). HasSymbolsIn German y (Ok c.in_ok-symbols.symbols)) c.symbols.ensures c.in_ok-symbols.ensures.ok
