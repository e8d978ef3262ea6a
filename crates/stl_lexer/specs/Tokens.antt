-- The tokens of a source, and its first violation.
use Rattle.std.specs.Prelude.{◌≡◌, ℕ, ◌+◌, ◌-◌, ◌<◌, ◌≤◌, ◌⊎◌, Bool, false, List, [], ◌∷◌, length, take, drop, Option, None, Some, Result, MatchOption, MatchResult, codes, slice_range}
use Rattle.std.specs.Str.{bytes_eq}
use Rattle.plc_base.specs.declared.refusals.Refusal.{Refusal}
use Rattle.plc_base.specs.declared.refusals.SourceFault.{SourceFault}
use Rattle.plc_base.specs.declared.refusals.SourceFault.TheVariants.{Refused, NoMemory}
use Rattle.stl_lexer.specs.declared.gaps.GapPart.TheVariants.{Blanks}
use Rattle.stl_lexer.specs.declared.kinds.TokenKind.{TokenKind}
use Rattle.stl_lexer.specs.declared.kinds.TokenKind.TheVariants.{Mark}
use Rattle.stl_lexer.specs.declared.kinds.Token.{Token}
use Rattle.stl_lexer.specs.declared.rules.Fault.{Fault}
use Rattle.stl_lexer.specs.Gap.{after_gap, line_at}
use Rattle.stl_lexer.specs.Longest.{IsLongestToken, HasNoForm}
use Rattle.stl_lexer.specs.Rules.{fault_of, rule_without_form}

-- the bytes of a token
abbrev pub text_of : List ℕ → Token → List ℕ
text_of source t = slice_range source t.start t.end

-- bytes of this kind are the mark `-`
unfoldable pub is_minus : TokenKind → List ℕ → Bool
is_minus Mark s = bytes_eq s (codes "-")
is_minus _ s = false

-- behind `from` stand separators and comments, and then, at `at`, something else
pub record IsBehindGap (source : List ℕ) (from at : ℕ) : Type 0 where
  -- `at` is not before `from`
  pub forward : from ≤ at
  -- `at` is a place in the source
  pub within : at < length source
  -- between `from` and `at` stand separators and comments alone, and at `at` something else
  pub gap : drop at source ≡ after_gap Blanks (drop from source)

-- t is the next token behind `from`, where `minus` says that the mark `-` stands before it: only
-- separators and comments lie before it, it is the longest token at its place, it breaks no rule,
-- and its line is that of its place
pub record IsNextToken (source : List ℕ) (from : ℕ) (minus : Bool) (t : Token) : Type 0 where
  -- only separators and comments stand between `from` and the token
  pub start : IsBehindGap source from t.start
  -- the token has at least one byte
  pub forward : t.start < t.end
  -- the token ends within the source
  pub within : t.end ≤ length source
  -- the token is the longest one at its place
  pub longest : IsLongestToken (drop t.start source) t.kind (t.end - t.start)
  -- the token breaks no rule; `minus` says that the mark `-` stands before it
  pub right : fault_of t.kind (text_of source t) minus ≡ None
  -- the line of the token is that of its first byte, counted from 1
  pub line : t.line ≡ line_at source t.start

-- only separators and comments stand behind `from`
abbrev pub IsEndOfTokens : List ℕ → ℕ → Type 0
IsEndOfTokens source from = after_gap Blanks (drop from source) ≡ []

-- no token begins at `at`
pub record NoTokenBegins (source : List ℕ) (at line rule : ℕ) : Type 0 where
  -- the bytes from `at` on begin with no token of any kind
  pub none : HasNoForm (drop at source)
  -- the line is that of the place `at`, counted from 1
  pub line_is : line ≡ line_at source at
  -- the rule is 2 where a quoted name, characters or an attribute without end opens at `at`, else 1
  pub rule_is : rule ≡ rule_without_form (drop at source)

-- the longest token at `at` breaks a rule
pub record LongestBreaksRule
    (source : List ℕ) (at : ℕ) (minus : Bool) (line rule : ℕ)
    : Type 0 where
  -- the kind of the longest token at `at`
  pub kind : TokenKind
  -- the number of bytes of the longest token at `at`
  pub size : ℕ
  -- the kind and the size are those of the longest token at `at`
  pub longest : IsLongestToken (drop at source) kind size
  -- what is wrong first with the token
  pub fault : Fault
  -- the token breaks a rule as the fault tells; `minus` says that the mark `-` stands before it
  pub breaks : fault_of kind (take size (drop at source)) minus ≡ Some fault
  -- the line is that of the byte at which the fault lies, counted from 1
  pub line_is : line ≡ line_at source (at + fault.offset)
  -- the rule is that of the fault: 1, 3 or 4
  pub rule_is : rule ≡ fault.rule

-- a rule of tokens is broken at the next token behind `from`
pub record BreaksTokenRule
    (source : List ℕ) (from : ℕ) (minus : Bool) (line rule : ℕ)
    : Type 0 where
  -- the place in the source where the next token would begin
  pub at : ℕ
  -- only separators and comments stand between `from` and `at`
  pub start : IsBehindGap source from at
  -- no token begins at `at`, or the longest one there breaks a rule
  pub broken : NoTokenBegins source at line rule ⊎ LongestBreaksRule source at minus line rule

-- the next token behind `from`, or None where no more stands there, or the rule that is broken
-- there
abbrev pub FindsNextToken : List ℕ → ℕ → Bool → Result (Option Token) Refusal → Type 0
FindsNextToken source from minus found =
    MatchResult found
    (λ next. MatchOption next (IsEndOfTokens source from) (IsNextToken source from minus))
    (λ refusal. BreaksTokenRule source from minus refusal.line refusal.rule)

-- some tokens follow one another behind `from`, and then `rest` holds at the end of the last
abbrev pub TokensFollow : List ℕ → (ℕ → Bool → Type 0) → ℕ → Bool → List Token → Type 0
TokensFollow source rest from minus [] = rest from minus
TokensFollow source rest from minus (t ∷ ts) =
    IsNextToken source from minus t
    × TokensFollow source rest t.end (is_minus t.kind (text_of source t)) ts

-- the tokens of a source: they follow one another from its front on, and nothing else stands behind
-- the last
unfoldable pub AreTokens : List ℕ → List Token → Type 0
AreTokens source ts = TokensFollow source (λ from minus. IsEndOfTokens source from) 0 false ts

-- the first violation of rules 1 to 4: what stands before it are tokens
unfoldable pub IsViolation : List ℕ → ℕ → ℕ → Type 0
IsViolation source line rule =
    (ts : List Token)
    × TokensFollow source (λ from minus. BreaksTokenRule source from minus line rule) 0 false ts

-- a refusal names the first violation; nothing is said of want of memory
abbrev pub IsRefused : List ℕ → SourceFault → Type 0
IsRefused source (Refused refusal) = IsViolation source refusal.line refusal.rule
IsRefused source NoMemory = Unit {0}

-- a source has one list of tokens at most
abbrev pub AreTokensUnique : Type 0
AreTokensUnique =
    (source : List ℕ) (ts us : List Token) → AreTokens source ts → AreTokens source us → ts ≡ us

-- a source with a violation has no list of tokens
abbrev pub ExcludesViolation : Type 0
ExcludesViolation =
    (source : List ℕ) (ts : List Token) (line rule : ℕ) → AreTokens source ts
    → IsViolation source line rule → ⊥

-- one line and one rule are the first violation
abbrev pub IsViolationUnique : Type 0
IsViolationUnique =
    (source : List ℕ) (line rule line' rule' : ℕ) → IsViolation source line rule
    → IsViolation source line' rule' → (line ≡ line') × (rule ≡ rule')

-- each source has tokens, or a violation
abbrev pub HasTokensOrViolation : List ℕ → Type 0
HasTokensOrViolation source =
    ((ts : List Token) × AreTokens source ts)
    ⊎ ((line : ℕ) × (rule : ℕ) × IsViolation source line rule)

-- every source has tokens or a violation, whatever bytes it has and however long it is
abbrev pub IsLexingTotal : Type 0
IsLexingTotal = (source : List ℕ) → HasTokensOrViolation source
