use Rattle.std.proofs.Common.{◌≡◌, ap, refl, sym, subst, ◌∙◌, List, [], ◌∷◌, ℕ, Vec, Global, Err}
use Rattle.std.proofs.lemmas.Result.{err_from_is_err_and}
use Rattle.de_mnemonics.specs.Translation.{IsTranslation}
use Rattle.s7_cli.specs.Answer.{CallAnswer, done_answer}
use Rattle.s7_cli.specs.Command.{Translate}
use Rattle.s7_cli.specs.Lines.{ok_line}
use Rattle.s7_cli.specs.Translating.{HasNoTranslation}
use Rattle.s7_cli.proofs.ComesLemmas.{comes-refused}
use Rattle.s7_cli.proofs.TranslatingLemmas.{says-translated, translated-weaker}
use Rattle.s7_cli.proofs.translate_command.translate_text.Goals as goal

pub returns-in_err-text : goal.returns-in_err-text
returns-in_err-text g c src start read =
    let fault = err_from_is_err_and c.from_residual.result c.from_residual.ensures.1 in
    let source : List ℕ = c.args.source.now in
    comes-refused (Vec ℕ Global) (Translate c.args.language src c.args.translation.now) start _ _ (source ∷ [])
    (HasNoTranslation c.args.language source) _ _ (fault.1 ∙ ap Err fault.2) read
    (λ (a : CallAnswer) holds.
    translated-weaker c.args.language source (λ text b. ⊥) (λ text b. b ≡ done_answer ok_line) (λ text b none. absurd none) a holds)
    c.in_err-text.ensures.refused

pub returns : goal.returns
returns g c src start read =
    let source : List ℕ = c.args.source.now in
    let text : List ℕ = c.in_ok-text.text.items in
    let is : IsTranslation c.args.language source text = c.in_ok-text.ensures.ok in
    c.write_output.ensures (Translate c.args.language src c.args.translation.now) (source ∷ []) (record {
      outputs = refl;
      writes = (refl, subst (λ (bytes : List ℕ). IsTranslation c.args.language source bytes) (sym c.deref.ensures.value) is);
      says = says-translated c.args.language source text (λ t a. a ≡ done_answer ok_line) (done_answer ok_line) is c.in_ok-text.ensures.fits refl;
    }) start read
