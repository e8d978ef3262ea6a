-- A source has one translation, or one violation.
use Rattle.std.proofs.Common.{◌≡◌, ℕ, List, [], Result, Ok, Err, refl, sym, ◌∙◌, ap, inl, inr}
use Rattle.stl_lexer.specs.declared.kinds.Token.{Token}
use Rattle.stl_lexer.specs.Tokens.{AreTokens, AreTokensUnique, ExcludesViolation as TokensExclude, IsViolationUnique as OneTokenViolation, HasTokensOrViolation, IsLexingTotal as EachHasTokens}
use Rattle.stl_symbols.specs.declared.languages.Language.{Language}
use Rattle.de_mnemonics.specs.Translation.{TranslationExcludesViolation, HasTranslationOrViolation, IsTranslationTotal, IsTranslationUnique, IsTranslationViolationUnique, foreign_word_rule, translation_of}

-- what is known of tokens
pub record Laws : Type 0 where
  pub one_list : AreTokensUnique
  pub tokens_exclude : TokensExclude
  pub one_token_violation : OneTokenViolation
  pub tokens_or_violation : EachHasTokens

abbrev text_in : Result (List ℕ) ℕ → List ℕ
text_in (Ok text) = text
text_in (Err line) = []

abbrev line_in : Result (List ℕ) ℕ → ℕ
line_in (Ok text) = 0
line_in (Err line) = line

ok≢err : (text : List ℕ) (line : ℕ) → Ok text ≡ Err line → ⊥
ok≢err text line e = cc

-- lists of tokens of one source come to one result
same_result : Laws → (language : Language) (source : List ℕ) (ts us : List Token) → AreTokens source ts → AreTokens source us
    → translation_of language source ts ≡ translation_of language source us
same_result laws language source ts us are also = ap (λ l. translation_of language source l) (laws.one_list source ts us are also)

pub one_text : Laws → IsTranslationUnique
one_text laws language source text other (ts, are, is) (us, also, is_other) =
    ap text_in (sym is ∙ same_result laws language source ts us are also ∙ is_other)

pub text_or_violation : Laws → TranslationExcludesViolation
text_or_violation laws language source text line rule (ts, are, is) (inl broken) = laws.tokens_exclude source ts line rule are broken
text_or_violation laws language source text line rule (ts, are, is) (inr ((us, also, stopped), rule_is)) =
    ok≢err text line (sym is ∙ same_result laws language source ts us are also ∙ stopped)

pub one_violation : Laws → IsTranslationViolationUnique
one_violation laws language source line rule line' rule' (inl x) (inl y) = laws.one_token_violation source line rule line' rule' x y
one_violation laws language source line rule line' rule' (inl x) (inr ((us, also, stopped), rule_is)) =
    absurd (laws.tokens_exclude source us line rule also x)
one_violation laws language source line rule line' rule' (inr ((ts, are, stopped), rule_is)) (inl y) =
    absurd (laws.tokens_exclude source ts line' rule' are y)
one_violation laws language source line rule line' rule' (inr ((ts, are, stopped), rule_is)) (inr ((us, also, stopped'), rule_is')) =
    (ap line_in (sym stopped ∙ same_result laws language source ts us are also ∙ stopped'), rule_is ∙ sym rule_is')

by_result : (language : Language) (source : List ℕ) (ts : List Token) → AreTokens source ts → (r : Result (List ℕ) ℕ)
    → translation_of language source ts ≡ r → HasTranslationOrViolation language source
by_result language source ts are (Ok text) is = inl (text, (ts, are, is))
by_result language source ts are (Err line) is = inr (line, foreign_word_rule, inr ((ts, are, is), refl))

total_by : (language : Language) (source : List ℕ) → HasTokensOrViolation source → HasTranslationOrViolation language source
total_by language source (inl (ts, are)) = by_result language source ts are (translation_of language source ts) refl
total_by language source (inr (line, rule, broken)) = inr (line, rule, inl broken)

pub total : Laws → IsTranslationTotal
total laws language source = total_by language source (laws.tokens_or_violation source)
