-- A source in German, and the translation of a source: there is one answer, and what is said of an English text.
use Rattle.std.proofs.Common.{◌≡◌, ◌<◌, ◌≤◌, true≢false, inl, inr, refl, sym, ◌∙◌, ap, ap₂, subst, ℕ, Bool, true, false, List, length, nat_le, Ok, Err, Result, arith}
use Rattle.std.proofs.lemmas.Bool.Decides.{nat_tests}
use Rattle.de_mnemonics.specs.Translation.{TranslationExcludesViolation, IsTranslation, IsTranslationUnique, IsTranslationViolationUnique}
use Rattle.plc_base.specs.declared.refusals.Refusal.{Refusal}
use Rattle.sem_kept.specs.Meaning.{HasSymbolsIn}
use Rattle.stl_symbols.specs.Symbol.{Symbol}
use Rattle.stl_symbols.specs.Symbols.{symbols_in}
use Rattle.stl_symbols.specs.declared.languages.Language.{Language}
use Rattle.stl_symbols.specs.declared.languages.Language.TheVariants.{English, German}
use Rattle.s7_cli.specs.declared.failures.File.TheVariants.{Source, Translation, Symbols}
use Rattle.s7_cli.specs.Answer.{CallAnswer, too_long_answer}
use Rattle.s7_cli.specs.Translating.{IfFits, SaysInEnglish, IsEnglish, HasNoTranslation, SaysWithSymbols, SaysByTranslation, SaysTranslated, TranslatesSource, language_of}
use Rattle.s7_cli.proofs.CommandAnswers.{IsCommandAnswer}

-- what is said of a text
abbrev pub Says : Type 1
Says = List ℕ → CallAnswer → Type 0

-- ---- one answer

-- a source has one translation, or is refused in one way
abbrev pub TranslatesOne : Type 0
TranslatesOne =
    (language : Language) (source : List ℕ) (v w : Result (List ℕ) Refusal) → TranslatesSource language source v → TranslatesSource language source w → v ≡ w

same_refusal : (r s : Refusal) → (r.line ≡ s.line) × (r.rule ≡ s.rule) → r ≡ s
same_refusal r s same = ap₂ (λ (line rule : ℕ). record { line = line; rule = rule }) same.0 same.1

pub translates-one : IsTranslationUnique → TranslationExcludesViolation → IsTranslationViolationUnique → TranslatesOne
translates-one text excludes violation language source (Ok a) (Ok b) p q = ap Ok (text language source a b p q)
translates-one text excludes violation language source (Ok a) (Err s) p q = absurd (excludes language source a s.line s.rule p q)
translates-one text excludes violation language source (Err r) (Ok b) p q = absurd (excludes language source b r.line r.rule q p)
translates-one text excludes violation language source (Err r) (Err s) p q =
    ap Err (same_refusal r s (violation language source r.line r.rule s.line s.rule p q))

-- one answer is said of each text
abbrev pub SaysOne : Says → Type 0
SaysOne says = (text : List ℕ) (a b : CallAnswer) → says text a → says text b → a ≡ b

fits-one : (fits : Bool) (says : Says) → SaysOne says → (text : List ℕ) (a b : CallAnswer) → IfFits fits (says text a) a
    → IfFits fits (says text b) b → a ≡ b
fits-one true says one text a b p q = one text a b p q
fits-one false says one text a b p q = p ∙ sym q

translation-one : (says : Says) → SaysOne says → (v : Result (List ℕ) Refusal) (a b : CallAnswer) → SaysByTranslation says v a
    → SaysByTranslation says v b → a ≡ b
translation-one says one (Err refusal) a b p q = p ∙ sym q
translation-one says one (Ok text) a b p q = fits-one (nat_le (length text) 1048576) says one text a b p q

pub translated-one : TranslatesOne → (language : Language) (source : List ℕ) (says : Says) → SaysOne says → (a b : CallAnswer)
    → SaysTranslated language source says a → SaysTranslated language source says b → a ≡ b
translated-one each language source says one a b p q =
    translation-one says one p.0 a b p.2
    (subst (λ (v : Result (List ℕ) Refusal). SaysByTranslation says v b) (each language source q.0 p.0 q.1 p.1) q.2)

symbols-one : TranslatesOne → (read : Result (List Symbol) Refusal) (source : List ℕ) (says : Says) → SaysOne says → (a b : CallAnswer)
    → SaysWithSymbols read source says a → SaysWithSymbols read source says b → a ≡ b
symbols-one each (Err refusal) source says one a b p q = p ∙ sym q
symbols-one each (Ok list) source says one a b p q = translated-one each English source says one a b p q

pub english-one : TranslatesOne → (german : Bool) (source symbols : List ℕ) (says : Says) → SaysOne says → (a b : CallAnswer)
    → SaysInEnglish german source symbols says a → SaysInEnglish german source symbols says b → a ≡ b
english-one each false source symbols says one a b p q = one source a b p q
english-one each true source symbols says one a b p q = symbols-one each (symbols_in German symbols) source says one a b p q

-- ---- which answers there are

abbrev pub SaysCommandAnswer : Says → Type 0
SaysCommandAnswer says = (text : List ℕ) (a : CallAnswer) → says text a → IsCommandAnswer a

fits-is-answer : (fits : Bool) (says : Says) → SaysCommandAnswer says → (text : List ℕ) (a : CallAnswer) → IfFits fits (says text a) a → IsCommandAnswer a
fits-is-answer true says each text a said = each text a said
fits-is-answer false says each text a said = inr (inr (inr (inr (inr (inl (Translation, said))))))

translation-is-answer : (says : Says) → SaysCommandAnswer says → (v : Result (List ℕ) Refusal) (a : CallAnswer) → SaysByTranslation says v a → IsCommandAnswer a
translation-is-answer says each (Err refusal) a said = inr (inl (Source, refusal, said))
translation-is-answer says each (Ok text) a said = fits-is-answer (nat_le (length text) 1048576) says each text a said

pub translated-is-answer : (language : Language) (source : List ℕ) (says : Says) → SaysCommandAnswer says → (a : CallAnswer)
    → SaysTranslated language source says a → IsCommandAnswer a
translated-is-answer language source says each a said = translation-is-answer says each said.0 a said.2

symbols-is-answer : (read : Result (List Symbol) Refusal) (source : List ℕ) (says : Says) → SaysCommandAnswer says → (a : CallAnswer)
    → SaysWithSymbols read source says a → IsCommandAnswer a
symbols-is-answer (Err refusal) source says each a said = inr (inl (Symbols, refusal, said))
symbols-is-answer (Ok list) source says each a said = translated-is-answer English source says each a said

pub english-is-answer : (german : Bool) (source symbols : List ℕ) (says : Says) → SaysCommandAnswer says → (a : CallAnswer)
    → SaysInEnglish german source symbols says a → IsCommandAnswer a
english-is-answer false source symbols says each a said = each source a said
english-is-answer true source symbols says each a said = symbols-is-answer (symbols_in German symbols) source says each a said

-- ---- more is said

fits-weaker : (fits : Bool) (said says : Type 0) (a : CallAnswer) → (said → says) → IfFits fits said a → IfFits fits says a
fits-weaker true said says a each holds = each holds
fits-weaker false said says a each holds = holds

translation-weaker : (said says : Says) → ((text : List ℕ) (a : CallAnswer) → said text a → says text a) → (v : Result (List ℕ) Refusal)
    (a : CallAnswer) → SaysByTranslation said v a → SaysByTranslation says v a
translation-weaker said says each (Err refusal) a holds = holds
translation-weaker said says each (Ok text) a holds = fits-weaker (nat_le (length text) 1048576) (said text a) (says text a) a (each text a) holds

pub translated-weaker : (language : Language) (source : List ℕ) (said says : Says) → ((text : List ℕ) (a : CallAnswer) → said text a → says text a)
    → (a : CallAnswer) → SaysTranslated language source said a → SaysTranslated language source says a
translated-weaker language source said says each a holds = (holds.0, holds.1, translation-weaker said says each holds.0 a holds.2)

symbols-weaker : (read : Result (List Symbol) Refusal) (source : List ℕ) (said says : Says)
    → ((text : List ℕ) (a : CallAnswer) → said text a → says text a) → (a : CallAnswer) → SaysWithSymbols read source said a → SaysWithSymbols read source says a
symbols-weaker (Err refusal) source said says each a holds = holds
symbols-weaker (Ok list) source said says each a holds = translated-weaker English source said says each a holds

pub english-weaker : (german : Bool) (source symbols : List ℕ) (said says : Says) → ((text : List ℕ) (a : CallAnswer) → said text a → says text a)
    → (a : CallAnswer) → SaysInEnglish german source symbols said a → SaysInEnglish german source symbols says a
english-weaker false source symbols said says each a holds = each source a holds
english-weaker true source symbols said says each a holds = symbols-weaker (symbols_in German symbols) source said says each a holds

-- ---- the English text is known

fitting : (fits : Bool) (said : Type 0) (a : CallAnswer) → fits ≡ true → said → IfFits fits said a
fitting true said a is holds = holds
fitting false said a is holds = absurd (true≢false (sym is))

too-long : (fits : Bool) (said : Type 0) (a : CallAnswer) → fits ≡ false → a ≡ too_long_answer Translation → IfFits fits said a
too-long true said a is gives = absurd (true≢false is)
too-long false said a is gives = gives

-- ---- a source that isn't translated

pub long-translation : (language : Language) (source text : List ℕ) → IsTranslation language source text → 1048576 < length text
    → HasNoTranslation language source (too_long_answer Translation)
long-translation language source text is long =
    (Ok text, is, too-long (nat_le (length text) 1048576) ⊥ (too_long_answer Translation) (grind (arith, nat_tests)) refl)

pub says-translated : (language : Language) (source text : List ℕ) (says : Says) (a : CallAnswer) → IsTranslation language source text
    → length text ≤ 1048576 → says text a → SaysTranslated language source says a
says-translated language source text says a is short said =
    (Ok text, is, fitting (nat_le (length text) 1048576) (says text a) a (grind (arith, nat_tests)) said)

pub german-so : (read : Result (List Symbol) Refusal) (list : List Symbol) (source : List ℕ) (says : Says) (a : CallAnswer) → Ok list ≡ read
    → SaysTranslated English source says a → SaysWithSymbols read source says a
german-so read list source says a has said = subst (λ (r : Result (List Symbol) Refusal). SaysWithSymbols r source says a) has said

-- it is said of it
pub in-english : (german : Bool) (source symbols text : List ℕ) (list : List Symbol) (says : Says) (a : CallAnswer)
    → HasSymbolsIn (language_of german) symbols (Ok list) → IsEnglish german source text → says text a → SaysInEnglish german source symbols says a
in-english false source symbols text list says a has is said = subst (λ (t : List ℕ). says t a) is said
in-english true source symbols text list says a has is said =
    german-so (symbols_in German symbols) list source says a has (says-translated English source text says a is.0 is.1 said)
