-- A translation goes on from token to token.
use Rattle.std.proofs.Common.{◌≡◌, ◌<◌, arith, length, ℕ, inl, inr, List, [], ◌∷◌, ◌++◌, Some, None, Result, Ok, Err, refl, sym, ◌∙◌, ap}
use Rattle.std.specs.Prelude.{slice_range, drop}
use Rattle.std.proofs.lemmas.List.{append_assoc}
use Rattle.plc_base.specs.declared.refusals.SourceFault.{SourceFault}
use Rattle.plc_base.specs.declared.refusals.SourceFault.TheVariants.{Refused, NoMemory}
use Rattle.stl_lexer.specs.declared.kinds.Token.{Token}
use Rattle.stl_lexer.specs.Tokens.{text_of, AreTokens, IsRefused as IsRefusedByTokens}
use Rattle.stl_symbols.specs.declared.languages.Language.{Language}
use Rattle.de_mnemonics.specs.declared.translation.TranslationPosition.{TranslationPosition}
use Rattle.de_mnemonics.specs.Words.{translated_word}
use Rattle.de_mnemonics.specs.Translation.{ContinuesTranslation, IsTranslationRefused, IsStoppedByForeignWord, IsTranslation, front_position, with_bytes_before, role_at, position_behind, translation_of, translation_from}

put_put : (a b : List ℕ) (r : Result (List ℕ) ℕ) → with_bytes_before a (with_bytes_before b r) ≡ with_bytes_before (a ++ b) r
put_put a b (Ok rest) = ap Ok (sym (append_assoc a b rest))
put_put a b (Err line) = refl

put_nothing : (r : Result (List ℕ) ℕ) → r ≡ with_bytes_before [] r
put_nothing (Ok rest) = refl
put_nothing (Err line) = refl

-- a token that is written
pub goes_on : (language : Language) (source old : List ℕ) (position : TranslationPosition) (t : Token) (ts : List Token) (word now : List ℕ)
    → translated_word language (role_at source position t ts) (text_of source t) ≡ Some word → now ≡ old ++ (slice_range source position.from t.start ++ word)
    → ContinuesTranslation language source old position (t ∷ ts) now (position_behind source position t ts) ts
unfolding translation_from
goes_on language source old position t ts word now is_word is_now =
    let gap : List ℕ = slice_range source position.from t.start in
    let rest : Result (List ℕ) ℕ = translation_from language source (position_behind source position t ts) ts in
    rw (is_word, is_now) (ap (with_bytes_before old) (put_put gap word rest) ∙ put_put old (gap ++ word) rest)

-- a token that has no translation
pub stops : (language : Language) (source : List ℕ) (position : TranslationPosition) (t : Token) (ts : List Token)
    → translated_word language (role_at source position t ts) (text_of source t) ≡ None
    → translation_from language source position (t ∷ ts) ≡ Err t.line
unfolding translation_from
stops language source position t ts is_word = rw is_word refl

-- the front of a source
pub at_front : (language : Language) (source : List ℕ) (ts : List Token)
    → translation_of language source ts ≡ with_bytes_before [] (translation_from language source front_position ts)
unfolding translation_of
at_front language source ts = put_nothing (translation_from language source front_position ts)

pub none_left : (ts : List Token) → length ts < 1 → ts ≡ []
none_left [] h = refl
none_left (t ∷ ts) h = absurd (omega arith)

-- its end
pub at_end : (language : Language) (source text : List ℕ) (position : TranslationPosition) (ts : List Token) → ts ≡ []
    → with_bytes_before text (translation_from language source position ts) ≡ Ok (text ++ drop position.from source)
unfolding translation_from
at_end language source text position ts none = rw none refl

-- what stops it at a token stops the whole
pub stopped_whole : (language : Language) (source text : List ℕ) (ts left : List Token) (position : TranslationPosition) (line : ℕ)
    → translation_of language source ts ≡ with_bytes_before text (translation_from language source position left)
    → translation_from language source position left ≡ Err line → translation_of language source ts ≡ Err line
stopped_whole language source text ts left position line so_far stopped = so_far ∙ ap (with_bytes_before text) stopped

-- a text that the tokens of a source come to is its translation
pub is_translation : (language : Language) (source text : List ℕ) (ts : List Token) → AreTokens source ts
    → translation_of language source ts ≡ Ok text → IsTranslation language source text
is_translation language source text ts are is = (ts, are, is)

-- what a source is refused by for its tokens
pub refused_by_tokens : (language : Language) (source : List ℕ) (fault : SourceFault) → IsRefusedByTokens source fault
    → IsTranslationRefused language source fault
refused_by_tokens language source (Refused refusal) broken = inl broken
refused_by_tokens language source NoMemory none = tt

-- and for a word
pub refused_by_word : (language : Language) (source : List ℕ) (ts : List Token) (fault : SourceFault) → AreTokens source ts
    → IsStoppedByForeignWord (translation_of language source ts) fault → IsTranslationRefused language source fault
refused_by_word language source ts (Refused refusal) are stopped = inr ((ts, are, stopped.0), stopped.1)
refused_by_word language source ts NoMemory are none = tt
