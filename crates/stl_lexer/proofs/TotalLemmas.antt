-- Each source has tokens, or a violation.
use Rattle.std.proofs.Common.{◌≡◌, ℕ, zero, suc, ◌+◌, ◌-◌, ◌<◌, ◌≤◌, ◌⊎◌, Bool, true, false, List, [], ◌∷◌, length, take, drop, Option, None, Some, inl, inr, refl, sym, ◌∙◌, subst, arith}
use Rattle.std.specs.Prelude.{◌==◌}
use Rattle.std.proofs.lemmas.Bool.{cases_Bool, cases_lt, false≢true}
use Rattle.std.proofs.lemmas.List.{length-drop, drop-drop, nil_from_length}
use Rattle.stl_lexer.specs.declared.gaps.GapPart.{GapPart}
use Rattle.stl_lexer.specs.declared.gaps.GapPart.TheVariants.{Blanks, Comment}
use Rattle.stl_lexer.specs.declared.kinds.TokenKind.{TokenKind}
use Rattle.stl_lexer.specs.declared.kinds.TokenKind.TheVariants.{Word, Number, Quoted, Local, Characters, Based, NumberLiteral, TimeLiteral, Mark, SignWord, Attribute, Title}
use Rattle.stl_lexer.specs.declared.kinds.Token.{Token}
use Rattle.stl_lexer.specs.declared.places.FoundToken.{FoundToken}
use Rattle.stl_lexer.specs.declared.rules.Fault.{Fault}
use Rattle.stl_lexer.specs.Bytes.{newline, is_source_byte, is_separator, opens_comment}
use Rattle.stl_lexer.specs.Forms.{has_form}
use Rattle.stl_lexer.specs.Gap.{after_gap, line_at}
use Rattle.stl_lexer.specs.Longest.{Form, IsFormAt, FindsLongest, FindsToken, IsLongestToken, kind_rank, better_of}
use Rattle.stl_lexer.specs.Rules.{fault_of, rule_without_form}
use Rattle.stl_lexer.specs.Tokens.{text_of, is_minus, IsBehindGap, IsNextToken, IsEndOfTokens, BreaksTokenRule, TokensFollow, AreTokens, IsViolation, IsLexingTotal}
use Rattle.stl_lexer.proofs.RankLemmas.{FindsBest, best_none, best_more, best_of_all}

-- the longest of a form is at most n bytes, or there is none
longest_below : (form : Form) (text : List ℕ) (n : ℕ) → n ≤ length text → ((m : ℕ) → n < m → IsFormAt form text m → ⊥) → (found : Option ℕ) × FindsLongest form text found
longest_below form text zero h none = (None, λ m at. none m at.some at)
longest_below form text (suc n) h none = elim (cases_Bool (form (take (suc n) text) (drop (suc n) text))) [
  | inl yes_ ↦ (
    Some (suc n),
    record {
      fits = record { some = omega arith; within = h; fits = yes_ };
      longest = λ m at. elim (cases_lt (suc n) m) [ inl above ↦ absurd (none m above at) | inr le ↦ le ];
    },
  )
  | inr no_ ↦ longest_below form text n (omega arith) (λ m above at. elim (cases_lt (suc n) m) [
    | inl higher ↦ none m higher at
    | inr le ↦
        let same : m ≡ suc n = omega arith in
        false≢true (sym no_ ∙ subst (λ k. form (take k text) (drop k text) ≡ true) same at.fits)
  ])
]

longest_there : (form : Form) (text : List ℕ) → (found : Option ℕ) × FindsLongest form text found
longest_there form text = longest_below form text (length text) (omega arith) (λ m above at. absurd (omega (arith, at.within)))

-- the longest token at the front of a text, or none
abbrev Best : ℕ → List ℕ → Type 0
Best r text = (best : Option FoundToken) × FindsBest r text best

best_next : (k : TokenKind) (text : List ℕ) → Best (kind_rank k) text → Best (suc (kind_rank k)) text
best_next k text (best, b) =
    let there = longest_there (has_form k) text in
    (better_of best k there.0, best_more k text best there.0 b there.1)

token_there : (text : List ℕ) → (found : Option FoundToken) × FindsToken text found
token_there text =
    let none : Best 0 text = (None, best_none text) in
    let words : Best 2 text = best_next Number text (best_next Word text none) in
    let names : Best 4 text = best_next Local text (best_next Quoted text words) in
    let based : Best 6 text = best_next Based text (best_next Characters text names) in
    let literals : Best 8 text = best_next TimeLiteral text (best_next NumberLiteral text based) in
    let signs : Best 10 text = best_next SignWord text (best_next Mark text literals) in
    let all : Best 12 text = best_next Title text (best_next Attribute text signs) in
    (all.0, best_of_all text all.0 all.1)

-- a gap ends somewhere
abbrev GapEnds : GapPart → List ℕ → Type 0
GapEnds inside text = (n : ℕ) × (n ≤ length text) × (drop n text ≡ after_gap inside text)

gap_longer : (inside opened : GapPart) (b : ℕ) (s : List ℕ) → after_gap inside (b ∷ s) ≡ after_gap opened s → GapEnds opened s → GapEnds inside (b ∷ s)
gap_longer inside opened b s e (n, within, ends) = (suc n, omega arith, ends ∙ sym e)

gap_there : (inside : GapPart) (text : List ℕ) → GapEnds inside text
gap_there Comment [] = (zero, omega arith, refl)
gap_there Blanks [] = (zero, omega arith, refl)
gap_there Comment (b ∷ s) = elim (cases_Bool (b == newline)) [
  | inl ends ↦ gap_longer Comment Blanks b s (rw ends refl) (gap_there Blanks s)
  | inr stays ↦ elim (cases_Bool (is_source_byte b)) [
    | inl on ↦ gap_longer Comment Comment b s (rw (stays, on) refl) (gap_there Comment s)
    | inr foreign ↦ (zero, omega arith, rw (stays, foreign) refl)
  ]
]
gap_there Blanks (b ∷ s) = elim (cases_Bool (is_separator b)) [
  | inl on ↦ gap_longer Blanks Blanks b s (rw on refl) (gap_there Blanks s)
  | inr other ↦ elim (cases_Bool (opens_comment (b ∷ s))) [
    | inl opens ↦ gap_longer Blanks Comment b s (rw (other, opens) refl) (gap_there Comment s)
    | inr none ↦ (zero, omega arith, rw (other, none) refl)
  ]
]

-- behind a place stands a token, or a rule is broken there, or nothing else stands there
abbrev HasNextOrEnd : List ℕ → ℕ → Bool → Type 0
HasNextOrEnd source from minus = ((t : Token) × IsNextToken source from minus t) ⊎ (IsEndOfTokens source from ⊎ ((line : ℕ) × (rule : ℕ) × BreaksTokenRule source from minus line rule))

token_at : (source : List ℕ) (from at : ℕ) (minus : Bool) (found : FoundToken) → IsBehindGap source from at → IsLongestToken (drop at source) found.kind found.length → (fault : Option Fault) → fault_of found.kind (take found.length (drop at source)) minus ≡ fault → HasNextOrEnd source from minus
token_at source from at minus found start longest None right =
    let n = found.length in
    let size : (at + n) - at ≡ n = omega arith in
    inl (
      record { kind = found.kind; start = at; end = at + n; line = line_at source at },
      record {
        start = start;
        forward = omega (arith, longest.fits.some);
        within = omega (arith, longest.fits.within, length-drop at source, start.within);
        longest = rw size longest;
        right = rw size right;
        line = refl;
      },
    )
token_at source from at minus found start longest (Some fault) broken =
    inr (inr (
      line_at source (at + fault.offset),
      fault.rule,
      record {
        at = at;
        start = start;
        broken = inr (record { kind = found.kind; size = found.length; longest = longest; fault = fault; breaks = broken; line_is = refl; rule_is = refl });
      },
    ))

begins_at : (source : List ℕ) (from at : ℕ) (minus : Bool) → IsBehindGap source from at → (found : Option FoundToken) → FindsToken (drop at source) found → HasNextOrEnd source from minus
begins_at source from at minus start None none =
    inr (inr (
      line_at source at,
      rule_without_form (drop at source),
      record {
        at = at;
        start = start;
        broken = inl (record { none = none; line_is = refl; rule_is = refl });
      },
    ))
begins_at source from at minus start (Some found) longest =
    token_at source from at minus found start longest (fault_of found.kind (take found.length (drop at source)) minus) refl

next_there : (source : List ℕ) (from : ℕ) (minus : Bool) → from ≤ length source → HasNextOrEnd source from minus
next_there source from minus h =
    let gap = gap_there Blanks (drop from source) in
    let at = from + gap.0 in
    let behind : drop at source ≡ after_gap Blanks (drop from source) = sym (drop-drop gap.0 from source) ∙ gap.2 in
    elim (cases_lt at (length source)) [
      | inl within ↦
          let there = token_there (drop at source) in
          begins_at source from at minus (record { forward = omega arith; within = within; gap = behind }) there.0 there.1
      | inr all ↦ inr (inl (sym behind ∙ nil_from_length (drop at source) (omega (arith, length-drop at source))))
    ]

-- tokens follow one another behind a place up to the end, or up to a place that breaks a rule
abbrev Ends : List ℕ → ℕ → Bool → Type 0
Ends source from minus =
    ((ts : List Token) × TokensFollow source (λ at m. IsEndOfTokens source at) from minus ts)
    ⊎ ((line : ℕ) × (rule : ℕ) × ((ts : List Token) × TokensFollow source (λ at m. BreaksTokenRule source at m line rule) from minus ts))

ends_behind : (source : List ℕ) (from : ℕ) (minus : Bool) (t : Token) → IsNextToken source from minus t → Ends source t.end (is_minus t.kind (text_of source t)) → Ends source from minus
ends_behind source from minus t next (inl (ts, follow)) = inl (t ∷ ts, (next, follow))
ends_behind source from minus t next (inr (line, rule, (ts, follow))) = inr (line, rule, (t ∷ ts, (next, follow)))

ends_there : (fuel : ℕ) (source : List ℕ) (from : ℕ) (minus : Bool) → from ≤ length source → length source < from + fuel → Ends source from minus
ends_there zero source from minus h enough = absurd (omega arith)
ends_there (suc fuel) source from minus h enough = elim (next_there source from minus h) [
  | inl one ↦
      let t = one.0 in
      let next = one.1 in
      ends_behind source from minus t next (ends_there fuel source t.end (is_minus t.kind (text_of source t)) next.within (omega (arith, next.forward, next.start.forward)))
  | inr none ↦ elim none [
    | inl end ↦ inl ([], end)
    | inr broken ↦ inr (broken.0, broken.1, ([], broken.2))
  ]
]

pub total : IsLexingTotal
unfolding AreTokens IsViolation
total source = ends_there (suc (length source)) source 0 false (omega arith) (omega arith)
