-- Tokens that follow one another; the law of tokens.
use Rattle.std.proofs.Common.{◌≡◌, ℕ, ◌+◌, ◌-◌, ◌<◌, ◌≤◌, ◌⊎◌, Bool, false, List, [], ◌∷◌, ◌++◌, length, take, drop, get_or, zero, suc, None, Some, inl, inr, refl, sym, ◌∙◌, ap, subst, arith}
use Rattle.std.proofs.lemmas.List.{length-drop}
use Rattle.std.proofs.lemmas.Option.{same_Some}
use Rattle.stl_lexer.specs.declared.kinds.TokenKind.{TokenKind}
use Rattle.stl_lexer.specs.declared.kinds.Token.{Token}
use Rattle.stl_lexer.specs.declared.rules.Fault.{Fault}
use Rattle.stl_lexer.specs.Gap.{line_at}
use Rattle.stl_lexer.specs.Longest.{IsLongestToken}
use Rattle.stl_lexer.specs.Rules.{fault_of}
use Rattle.stl_lexer.specs.Tokens.{text_of, is_minus, IsBehindGap, IsNextToken, IsEndOfTokens, NoTokenBegins, LongestBreaksRule, BreaksTokenRule, TokensFollow, AreTokens, IsViolation, AreTokensUnique, ExcludesViolation, IsViolationUnique}
use Rattle.stl_lexer.proofs.RankLemmas.{same_rank}

-- tokens that lead to a place, with what stands before it
abbrev pub Leads : List ℕ → ℕ → Bool → ℕ → Bool → List Token → Type 0
Leads source to after from minus ts = TokensFollow source (λ at m. (at ≡ to) × (m ≡ after)) from minus ts

-- one token more
pub leads_more : (source : List ℕ) (to : ℕ) (after : Bool) (from : ℕ) (minus : Bool) (ts : List Token) (t : Token) → Leads source to after from minus ts → IsNextToken source to after t → Leads source t.end (is_minus t.kind (text_of source t)) from minus (ts ++ t ∷ [])
leads_more source to after from minus [] t (at_is, minus_is) next =
    (subst (λ m. IsNextToken source from m t) (sym minus_is) (subst (λ at. IsNextToken source at after t) (sym at_is) next), (refl, refl))
leads_more source to after from minus (u ∷ us) t (first, others) next =
    (first, leads_more source to after u.end (is_minus u.kind (text_of source u)) us t others next)

-- what holds at the end of the last token
pub leads_then : (source : List ℕ) (to : ℕ) (after : Bool) (rest : ℕ → Bool → Type 0) (from : ℕ) (minus : Bool) (ts : List Token) → Leads source to after from minus ts → rest to after → TokensFollow source rest from minus ts
leads_then source to after rest from minus [] (at_is, minus_is) h = subst (rest from) (sym minus_is) (subst (λ at. rest at after) (sym at_is) h)
leads_then source to after rest from minus (u ∷ us) (first, others) h =
    (first, leads_then source to after rest u.end (is_minus u.kind (text_of source u)) us others h)

-- one place is behind the gap
same_place : (source : List ℕ) (from a b : ℕ) → IsBehindGap source from a → IsBehindGap source from b → a ≡ b
same_place source from a b x y = omega (arith, ap length (x.gap ∙ sym y.gap), length-drop a source, length-drop b source, x.within, y.within)

-- the longest token at a place has one kind and one length
same_longest : (text : List ℕ) (j k : TokenKind) (m n : ℕ) → IsLongestToken text j m → IsLongestToken text k n → (j ≡ k) × (m ≡ n)
same_longest text j k m n x y = elim (x.longest k n y.fits) [
  | inl lt ↦ elim (y.longest j m x.fits) [ inl gt ↦ absurd (omega arith) | inr same ↦ absurd (omega (arith, same.0)) ]
  | inr same ↦ elim (y.longest j m x.fits) [
    | inl gt ↦ absurd (omega (arith, same.0))
    | inr also ↦ (same_rank j k (omega (arith, same.1, also.1)), also.0)
  ]
]

-- the next token is one
same_next : (source : List ℕ) (from : ℕ) (minus : Bool) (t u : Token) → IsNextToken source from minus t → IsNextToken source from minus u → t ≡ u
same_next source from minus t u x y =
    let starts = same_place source from t.start u.start x.start y.start in
    let there = subst (λ at. IsLongestToken (drop at source) t.kind (t.end - t.start)) starts x.longest in
    let same = same_longest (drop u.start source) t.kind u.kind (t.end - t.start) (u.end - u.start) there y.longest in
    let ends : t.end ≡ u.end = omega (arith, starts, same.1, x.forward, y.forward) in
    let lines : t.line ≡ u.line = x.line ∙ ap (line_at source) starts ∙ sym y.line in
    λ i. record { kind = same.0 i; start = starts i; end = ends i; line = lines i }

-- a token is next, or none is left, or a rule is broken: only one of the three
next_not_end : (source : List ℕ) (from : ℕ) (minus : Bool) (t : Token) → IsNextToken source from minus t → IsEndOfTokens source from → ⊥
next_not_end source from minus t x e = absurd (omega (arith, ap length (x.start.gap ∙ e), length-drop t.start source, x.start.within))

breaks_not_end : (source : List ℕ) (from : ℕ) (minus : Bool) (line rule : ℕ) → BreaksTokenRule source from minus line rule → IsEndOfTokens source from → ⊥
breaks_not_end source from minus line rule x e = absurd (omega (arith, ap length (x.start.gap ∙ e), length-drop x.at source, x.start.within))

same_fault : (source : List ℕ) (at : ℕ) (minus : Bool) (j k : TokenKind) (m n : ℕ) → IsLongestToken (drop at source) j m → IsLongestToken (drop at source) k n → fault_of j (take m (drop at source)) minus ≡ fault_of k (take n (drop at source)) minus
same_fault source at minus j k m n x y =
    let same = same_longest (drop at source) j k m n x y in
    λ i. fault_of (same.0 i) (take (same.1 i) (drop at source)) minus

none≢some : {A : Type 0} (a : A) → None ≡ Some a → ⊥
none≢some a e = cc

breaks_not_next : (source : List ℕ) (from : ℕ) (minus : Bool) (t : Token) (line rule : ℕ) → IsNextToken source from minus t → BreaksTokenRule source from minus line rule → ⊥
breaks_not_next source from minus t line rule x b =
    let there = subst (λ at. NoTokenBegins source at line rule ⊎ LongestBreaksRule source at minus line rule) (same_place source from b.at t.start b.start x.start) b.broken in
    elim there [
      | inl none ↦ none.none t.kind (t.end - t.start) x.longest.fits
      | inr one ↦ none≢some one.fault (sym x.right ∙ same_fault source t.start minus t.kind one.kind (t.end - t.start) one.size x.longest one.longest ∙ one.breaks)
    ]

-- what is broken at a place has one line and one rule
same_broken : (source : List ℕ) (at : ℕ) (minus : Bool) (line rule line' rule' : ℕ) → NoTokenBegins source at line rule ⊎ LongestBreaksRule source at minus line rule → NoTokenBegins source at line' rule' ⊎ LongestBreaksRule source at minus line' rule' → (line ≡ line') × (rule ≡ rule')
same_broken source at minus line rule line' rule' (inl x) (inl y) = (x.line_is ∙ sym y.line_is, x.rule_is ∙ sym y.rule_is)
same_broken source at minus line rule line' rule' (inl x) (inr y) = absurd (x.none y.kind y.size y.longest.fits)
same_broken source at minus line rule line' rule' (inr x) (inl y) = absurd (y.none x.kind x.size x.longest.fits)
same_broken source at minus line rule line' rule' (inr x) (inr y) =
    let faults = same_Some x.fault y.fault (sym x.breaks ∙ same_fault source at minus x.kind y.kind x.size y.size x.longest y.longest ∙ y.breaks) in
    (x.line_is ∙ ap (λ (f : Fault). line_at source (at + f.offset)) faults ∙ sym y.line_is, x.rule_is ∙ ap (λ (f : Fault). f.rule) faults ∙ sym y.rule_is)

same_breaks : (source : List ℕ) (from : ℕ) (minus : Bool) (line rule line' rule' : ℕ) → BreaksTokenRule source from minus line rule → BreaksTokenRule source from minus line' rule' → (line ≡ line') × (rule ≡ rule')
same_breaks source from minus line rule line' rule' x y =
    let there = subst (λ at. NoTokenBegins source at line rule ⊎ LongestBreaksRule source at minus line rule) (same_place source from x.at y.at x.start y.start) x.broken in
    same_broken source y.at minus line rule line' rule' there y.broken

-- what follows a token follows the same token
follow_same : (source : List ℕ) (rest : ℕ → Bool → Type 0) (t u : Token) (us : List Token) → t ≡ u → TokensFollow source rest u.end (is_minus u.kind (text_of source u)) us → TokensFollow source rest t.end (is_minus t.kind (text_of source t)) us
follow_same source rest t u us e h = subst (λ (v : Token). TokensFollow source rest v.end (is_minus v.kind (text_of source v)) us) (sym e) h

abbrev ToEnd : List ℕ → ℕ → Bool → List Token → Type 0
ToEnd source from minus ts = TokensFollow source (λ at m. IsEndOfTokens source at) from minus ts

abbrev ToBreak : List ℕ → ℕ → ℕ → ℕ → Bool → List Token → Type 0
ToBreak source line rule from minus ts = TokensFollow source (λ at m. BreaksTokenRule source at m line rule) from minus ts

same_to_end : (source : List ℕ) (from : ℕ) (minus : Bool) (ts us : List Token) → ToEnd source from minus ts → ToEnd source from minus us → ts ≡ us
same_to_end source from minus [] [] x y = refl
same_to_end source from minus [] (u ∷ us) x (y, ys) = absurd (next_not_end source from minus u y x)
same_to_end source from minus (t ∷ ts) [] (x, xs) y = absurd (next_not_end source from minus t x y)
same_to_end source from minus (t ∷ ts) (u ∷ us) (x, xs) (y, ys) =
    let first = same_next source from minus t u x y in
    let others = same_to_end source t.end (is_minus t.kind (text_of source t)) ts us xs (follow_same source (λ at m. IsEndOfTokens source at) t u us first ys) in
    λ i. first i ∷ others i

not_both : (source : List ℕ) (line rule from : ℕ) (minus : Bool) (ts us : List Token) → ToEnd source from minus ts → ToBreak source line rule from minus us → ⊥
not_both source line rule from minus [] [] x y = breaks_not_end source from minus line rule y x
not_both source line rule from minus [] (u ∷ us) x (y, ys) = next_not_end source from minus u y x
not_both source line rule from minus (t ∷ ts) [] (x, xs) y = breaks_not_next source from minus t line rule x y
not_both source line rule from minus (t ∷ ts) (u ∷ us) (x, xs) (y, ys) =
    not_both source line rule t.end (is_minus t.kind (text_of source t)) ts us xs
    (follow_same source (λ at m. BreaksTokenRule source at m line rule) t u us (same_next source from minus t u x y) ys)

same_to_break : (source : List ℕ) (line rule line' rule' from : ℕ) (minus : Bool) (ts us : List Token) → ToBreak source line rule from minus ts → ToBreak source line' rule' from minus us → (line ≡ line') × (rule ≡ rule')
same_to_break source line rule line' rule' from minus [] [] x y = same_breaks source from minus line rule line' rule' x y
same_to_break source line rule line' rule' from minus [] (u ∷ us) x (y, ys) = absurd (breaks_not_next source from minus u line rule y x)
same_to_break source line rule line' rule' from minus (t ∷ ts) [] (x, xs) y = absurd (breaks_not_next source from minus t line' rule' x y)
same_to_break source line rule line' rule' from minus (t ∷ ts) (u ∷ us) (x, xs) (y, ys) =
    same_to_break source line rule line' rule' t.end (is_minus t.kind (text_of source t)) ts us xs
    (follow_same source (λ at m. BreaksTokenRule source at m line' rule') t u us (same_next source from minus t u x y) ys)

pub one_list : AreTokensUnique
unfolding AreTokens
one_list source ts us x y = same_to_end source 0 false ts us x y

pub list_or_violation : ExcludesViolation
unfolding AreTokens IsViolation
list_or_violation source ts line rule x (us, y) = not_both source line rule 0 false ts us x y

pub one_violation : IsViolationUnique
unfolding IsViolation
one_violation source line rule line' rule' (ts, x) (us, y) = same_to_break source line rule line' rule' 0 false ts us x y

-- a token lies in its source
abbrev pub IsWithin : List ℕ → Token → Type 0
IsWithin source t = (t.start < t.end) × (t.end ≤ length source)

to_end_within : (source : List ℕ) (from : ℕ) (minus : Bool) (ts : List Token) → ToEnd source from minus ts → (i : ℕ) (d : Token) → i < length ts → IsWithin source (get_or ts i d)
to_end_within source from minus [] x i d h = absurd (omega arith)
to_end_within source from minus (t ∷ ts) (x, xs) zero d h = (x.forward, x.within)
to_end_within source from minus (t ∷ ts) (x, xs) (suc i) d h = to_end_within source t.end (is_minus t.kind (text_of source t)) ts xs i d (omega arith)

-- each token lies in its source
pub tokens_within : (source : List ℕ) (ts : List Token) → AreTokens source ts → (i : ℕ) (d : Token) → i < length ts → IsWithin source (get_or ts i d)
unfolding AreTokens
tokens_within source ts x i d h = to_end_within source 0 false ts x i d h

-- the token that is read at a place lies in its source
pub token_within : (source : List ℕ) (ts : List Token) → AreTokens source ts → (i : ℕ) (t : Token) → i < length ts → t ≡ get_or ts i t → IsWithin source t
token_within source ts are i t h e = subst (λ (u : Token). IsWithin source u) (sym e) (tokens_within source ts are i t h)
