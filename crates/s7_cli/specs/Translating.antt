-- A source in German, and the translation of a source: what is said of it.
use Rattle.std.specs.Prelude.{◌≡◌, ◌≤◌, nat_le, ℕ, Bool, true, false, List, length, Result, Ok, Err}
use Rattle.de_mnemonics.specs.Translation.{IsTranslation, IsTranslationViolation}
use Rattle.stl_symbols.specs.declared.languages.Language.{Language}
use Rattle.stl_symbols.specs.declared.languages.Language.TheVariants.{English, German}
use Rattle.flat_code.specs.Programs.{Program}
use Rattle.plc_base.specs.declared.profiles.Profile.TheVariants.{Large}
use Rattle.plc_base.specs.declared.refusals.Refusal.{Refusal}
use Rattle.sem_kept.specs.Agreement.{AreFiles, KeepsSourceIn}
use Rattle.sem_kept.specs.Compiles.{CompilesTo}
use Rattle.stl_symbols.specs.Symbol.{Symbol}
use Rattle.stl_symbols.specs.Symbols.{symbols_in}
use Rattle.s7_cli.specs.declared.failures.File.TheVariants.{Source, Translation, Symbols}
use Rattle.s7_cli.specs.Answer.{CallAnswer, refused_file_answer, too_long_answer}
use Rattle.s7_cli.specs.Command.{limit_of}
use Rattle.s7_cli.specs.Compiling.{HasProgramIn, IsCompiledIn}

-- the language of a source and of the addresses of its symbols, by the flag `--german`
abbrev pub language_of : Bool → Language
language_of false = English
language_of true = German

-- the translation of a source into a language, or its refusal
abbrev pub TranslatesSource : Language → (source : List ℕ) → Result (List ℕ) Refusal → Type 0
TranslatesSource language source (Ok text) = IsTranslation language source text
TranslatesSource language source (Err refusal) =
    IsTranslationViolation language source refusal.line refusal.rule

-- an answer by whether a text fits: what is said of it, or else that the translation is too long
abbrev pub IfFits : Bool → Type 0 → CallAnswer → Type 0
IfFits true said answer = said
IfFits false said answer = answer ≡ too_long_answer Translation

-- an answer by the translation of a source: its refusal, or what `says` has of the text where
-- that is as long as it may be
abbrev pub SaysByTranslation :
    (says : List ℕ → CallAnswer → Type 0) → Result (List ℕ) Refusal → CallAnswer → Type 0
SaysByTranslation says (Err refusal) answer = answer ≡ refused_file_answer Source refusal
SaysByTranslation says (Ok text) answer =
    IfFits (nat_le (length text) (limit_of Translation)) (says text answer) answer

-- what `says` has of the translation of a source into a language: its tokens and its words are
-- checked first, and then how long the translation is
abbrev pub SaysTranslated :
    Language → (source : List ℕ) → (says : List ℕ → CallAnswer → Type 0) → CallAnswer → Type 0
SaysTranslated language source says answer =
    (translation : Result (List ℕ) Refusal) × TranslatesSource language source translation
    × SaysByTranslation says translation answer

-- what `says` has of the English translation of a source with these symbols, which are checked
-- before
abbrev pub SaysWithSymbols : Result (List Symbol) Refusal → (source : List ℕ)
    → (says : List ℕ → CallAnswer → Type 0) → CallAnswer → Type 0
SaysWithSymbols (Err refusal) source says answer = answer ≡ refused_file_answer Symbols refusal
SaysWithSymbols (Ok list) source says answer = SaysTranslated English source says answer

-- what `says` has of the English text of a source: an English one itself, or the translation of
-- a German one, whose symbols are checked before
abbrev pub SaysInEnglish : (german : Bool) → (source symbols : List ℕ)
    → (says : List ℕ → CallAnswer → Type 0) → CallAnswer → Type 0
SaysInEnglish false source symbols says answer = says source answer
SaysInEnglish true source symbols says answer =
    SaysWithSymbols (symbols_in German symbols) source says answer

-- a text is the English text of a source: an English one itself, or the translation of a German
-- one, as long as it may be
abbrev pub IsEnglish : (german : Bool) → (source text : List ℕ) → Type 0
IsEnglish false source text = text ≡ source
IsEnglish true source text =
    IsTranslation English source text × (length text ≤ limit_of Translation)

-- the answer where a source has no translation into a language, or one that is too long
abbrev pub HasNoTranslation : Language → (source : List ℕ) → CallAnswer → Type 0
HasNoTranslation language source answer = SaysTranslated language source (λ text a. ⊥) answer

-- the answer where a German source has no English text that is as long as it may be, or its
-- symbols are refused
abbrev pub NotInEnglish : (source symbols : List ℕ) → CallAnswer → Type 0
NotInEnglish source symbols answer = SaysInEnglish true source symbols (λ text a. ⊥) answer

-- the English text of a source has a program with its symbols
abbrev pub HasProgramOf : (german : Bool) → (source symbols : List ℕ) → Type 0
HasProgramOf german source symbols =
    (text : List ℕ) × IsEnglish german source text
    × HasProgramIn (language_of german) text symbols

-- a program keeps the English text of a source with its symbols, at the large profile
abbrev pub KeepsText : (german : Bool) → (source symbols : List ℕ) → Program → Type 0
KeepsText german source symbols p =
    (text : List ℕ) × IsEnglish german source text
    × KeepsSourceIn (language_of german) Large text symbols p

-- the program to which the English text of a source with its symbols compiles, and which keeps
-- it, at the large profile
abbrev pub IsProgramOf : (german : Bool) → (source symbols : List ℕ) → Program → Type 0
IsProgramOf german source symbols p =
    (text : List ℕ) × IsEnglish german source text
    × KeepsSourceIn (language_of german) Large text symbols p
    × CompilesTo (language_of german) text symbols p × AreFiles text symbols

-- bytes are the image that `compile` writes: that of the English text of the source
abbrev pub IsSourceImage : (german : Bool) → (bytes source symbols : List ℕ) → Type 0
IsSourceImage german bytes source symbols =
    (text : List ℕ) × IsEnglish german source text
    × IsCompiledIn (language_of german) bytes text symbols
