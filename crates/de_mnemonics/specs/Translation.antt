-- The translation of a source.
use Rattle.std.specs.Prelude.{◌≡◌, ℕ, ◌⊎◌, List, [], ◌∷◌, ◌++◌, drop, Option, Some, None, Result, Ok, Err, slice_range}
use Rattle.plc_base.specs.declared.refusals.SourceFault.{SourceFault}
use Rattle.plc_base.specs.declared.refusals.SourceFault.TheVariants.{Refused, NoMemory}
use Rattle.stl_lexer.specs.declared.kinds.Token.{Token}
use Rattle.stl_lexer.specs.Tokens.{text_of, AreTokens, IsViolation}
use Rattle.stl_symbols.specs.declared.languages.Language.{Language}
use Rattle.de_mnemonics.specs.declared.classes.TokenClass.{TokenClass}
use Rattle.de_mnemonics.specs.declared.classes.TokenClass.TheVariants as class
use Rattle.de_mnemonics.specs.declared.places.TokenPlace.TheVariants as place
use Rattle.de_mnemonics.specs.declared.roles.Role.{Role}
use Rattle.de_mnemonics.specs.declared.translation.TranslationPosition.{TranslationPosition}
use Rattle.de_mnemonics.specs.Places.{token_place_behind, token_class, role_of}
use Rattle.de_mnemonics.specs.Words.{translated_word}

-- the rule of a word of the other language
abbrev pub foreign_word_rule : ℕ
foreign_word_rule = 17

-- the class of a token of a source
abbrev pub token_class_in : List ℕ → Token → TokenClass
token_class_in source t = token_class t.kind (text_of source t)

-- the class of the first of these tokens, where there is one
abbrev pub next_class : List ℕ → List Token → TokenClass
next_class source [] = class.Other
next_class source (t ∷ ts) = token_class_in source t

-- a translation with these bytes in front; where there is none, its violation stays
abbrev pub with_bytes_before : List ℕ → Result (List ℕ) ℕ → Result (List ℕ) ℕ
with_bytes_before front (Ok rest) = Ok (front ++ rest)
with_bytes_before front (Err line) = Err line

-- the translation of a word on this line, in front of that of what follows; where the word has
-- none, its line
abbrev pub with_word_before : Option (List ℕ) → ℕ → Result (List ℕ) ℕ → Result (List ℕ) ℕ
with_word_before None line rest = Err line
with_word_before (Some word) line rest = with_bytes_before word rest

-- the role of a token at a position, with the tokens behind it
abbrev pub role_at : List ℕ → TranslationPosition → Token → List Token → Role
role_at source position t ts =
    role_of position.place position.before (token_class_in source t) (text_of source t)
    (next_class source ts)

-- the position behind a token at a position, with the tokens behind it
abbrev pub position_behind : List ℕ → TranslationPosition → Token → List Token → TranslationPosition
position_behind source position t ts = record {
  from = t.end;
  place =
      token_place_behind position.place position.before (token_class_in source t) (text_of source t)
      (next_class source ts);
  before = token_class_in source t;
}

-- the translation of a source from a position on: what stands between tokens stays, and each token
-- is written as its role asks; or the line of the first word that has no translation
unfoldable pub translation_from : Language → List ℕ → TranslationPosition → List Token
    → Result (List ℕ) ℕ
translation_from language source position [] = Ok (drop position.from source)
translation_from language source position (t ∷ ts) =
    with_bytes_before (slice_range source position.from t.start)
    (with_word_before
    (translated_word language (role_at source position t ts) (text_of source t)) t.line
    (translation_from language source (position_behind source position t ts) ts))

-- where a translation stands at the front of a source
abbrev pub front_position : TranslationPosition
front_position = record { from = 0; place = place.Outside; before = class.Other }

-- the translation of a source with these tokens
unfoldable pub translation_of : Language → List ℕ → List Token → Result (List ℕ) ℕ
translation_of language source ts = translation_from language source front_position ts

-- behind a text that was written, the translation goes on from one position as from another, behind
-- a text that was then written
abbrev pub ContinuesTranslation : Language → List ℕ → List ℕ → TranslationPosition → List Token
    → List ℕ → TranslationPosition → List Token → Type 0
ContinuesTranslation language source old position ts now next rest =
    with_bytes_before old (translation_from language source position ts)
    ≡ with_bytes_before now (translation_from language source next rest)

-- a translation ends as a refusal says, at a word of the other language on its line; nothing is
-- said of want of memory
abbrev pub IsStoppedByForeignWord : Result (List ℕ) ℕ → SourceFault → Type 0
IsStoppedByForeignWord found (Refused refusal) =
    (found ≡ Err refusal.line) × (refusal.rule ≡ foreign_word_rule)
IsStoppedByForeignWord found NoMemory = Unit {0}

-- a text is the translation of a source
abbrev pub IsTranslation : Language → List ℕ → List ℕ → Type 0
IsTranslation language source text =
    (ts : List Token) × AreTokens source ts × (translation_of language source ts ≡ Ok text)

-- the first word of the other language, in a source that breaks no rule of tokens, stands on this
-- line
abbrev pub HasForeignWord : Language → List ℕ → ℕ → Type 0
HasForeignWord language source line =
    (ts : List Token) × AreTokens source ts × (translation_of language source ts ≡ Err line)

-- the first violation of the rules of tokens and, where there is none, of the rule of words of the
-- other language
abbrev pub IsTranslationViolation : Language → List ℕ → ℕ → ℕ → Type 0
IsTranslationViolation language source line rule =
    IsViolation source line rule ⊎
    (HasForeignWord language source line × (rule ≡ foreign_word_rule))

-- a refusal names the first violation of a source that is to be translated; nothing is said of want
-- of memory
abbrev pub IsTranslationRefused : Language → List ℕ → SourceFault → Type 0
IsTranslationRefused language source (Refused refusal) =
    IsTranslationViolation language source refusal.line refusal.rule
IsTranslationRefused language source NoMemory = Unit {0}

-- a source has one translation at most
abbrev pub IsTranslationUnique : Type 0
IsTranslationUnique =
    (language : Language) (source text other : List ℕ) → IsTranslation language source text
    → IsTranslation language source other → text ≡ other

-- a source that has a translation has no violation
abbrev pub TranslationExcludesViolation : Type 0
TranslationExcludesViolation =
    (language : Language) (source text : List ℕ) (line rule : ℕ)
    → IsTranslation language source text → IsTranslationViolation language source line rule → ⊥

-- a source has one violation at most: two have the same line and the same rule
abbrev pub IsTranslationViolationUnique : Type 0
IsTranslationViolationUnique =
    (language : Language) (source : List ℕ) (line rule line' rule' : ℕ)
    → IsTranslationViolation language source line rule
    → IsTranslationViolation language source line' rule' → (line ≡ line') × (rule ≡ rule')

-- a source has a translation or a violation
abbrev pub HasTranslationOrViolation : Language → List ℕ → Type 0
HasTranslationOrViolation language source =
    ((text : List ℕ) × IsTranslation language source text) ⊎
    ((line : ℕ) × (rule : ℕ) × IsTranslationViolation language source line rule)

-- each source has a translation to each language, or a violation
abbrev pub IsTranslationTotal : Type 0
IsTranslationTotal =
    (language : Language) (source : List ℕ) → HasTranslationOrViolation language source
