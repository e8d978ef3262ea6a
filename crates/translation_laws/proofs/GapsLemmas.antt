-- Gaps before texts that were written anew.
use Rattle.std.proofs.Common.{◌≡◌, ◌⊎◌, ℕ, ◌<◌, ◌≤◌, Bool, true, false, not, ◌&&◌, List, [], ◌∷◌, ◌++◌, length, drop, Option, None, Some, refl, sym, ◌∙◌, ap, subst, arith, inl, inr}
use Rattle.std.specs.Prelude.{◌==◌, if◌then◌else◌, nat_lt, position}
use Rattle.std.specs.List.{list_all, prefix_len}
use Rattle.std.proofs.lemmas.Bool.{and_parts, cases_Bool, eqb-true, false≢true, false_from_ne_true, lt-ltb, not_from_false}
use Rattle.std.proofs.lemmas.Bool.Decides.{nat_tests}
use Rattle.std.proofs.lemmas.List.{length-append}
use Rattle.stl_lexer.specs.declared.kinds.TokenKind.{TokenKind}
use Rattle.stl_lexer.specs.declared.kinds.TokenKind.TheVariants.{Word, Number, Quoted, Local, Characters, Based, NumberLiteral, TimeLiteral, Mark, SignWord, Attribute, Title}
use Rattle.stl_lexer.specs.Bytes.{hash, newline, slash, is_source_byte, is_separator, is_word_byte, is_word_start, opens_comment}
use Rattle.stl_lexer.specs.Forms as forms
use Rattle.stl_lexer.specs.Forms.{has_form}
use Rattle.stl_lexer.specs.Gap.{after_gap, is_comment_byte}
use Rattle.stl_lexer.specs.Longest.{IsLongestToken}
use Rattle.stl_lexer.specs.Marks.{marks, mark_text}
use Rattle.stl_lexer.specs.Pieces.{Piece, ArePiecesStanding, StandsBefore}
use Rattle.stl_lexer.specs.Rules.{earlier_fault, fault_of, rule_broken_by_token}
use Rattle.stl_lexer.proofs.GapLemmas.{comment_gap}
use Rattle.translation_laws.specs.RewrittenText.{IsRewrittenText, kind_of_rewritten}

-- a walk over a gap: outside of comments and inside of one
pub record Walks {P : Type 0} (g : P → List ℕ → List ℕ) (blanks comment : P) : Type 0 where
  pub ended : (g blanks [] ≡ []) × (g comment [] ≡ [])
  pub outside : (b : ℕ) (s : List ℕ) → g blanks (b ∷ s) ≡ (if is_separator b then g blanks s else (if opens_comment (b ∷ s) then g comment s else b ∷ s))
  pub inside : (b : ℕ) (s : List ℕ) → g comment (b ∷ s) ≡ (if b == newline then g blanks s else (if is_source_byte b then g comment s else b ∷ s))

-- what is left is no longer than the text
shorter : {P : Type 0} (g : P → List ℕ → List ℕ) (blanks comment : P) → Walks g blanks comment → (s : List ℕ) → (length (g blanks s) ≤ length s) × (length (g comment s) ≤ length s)
shorter g blanks comment w [] = (omega (arith, ap length w.ended.0), omega (arith, ap length w.ended.1))
shorter g blanks comment w (b ∷ s) =
    let rest = shorter g blanks comment w s in
    (omega (arith, ap length (w.outside b s), cut (is_separator b) (opens_comment (b ∷ s)) (g blanks s) (g comment s) rest.0 rest.1), omega (arith, ap length (w.inside b s), cut (b == newline) (is_source_byte b) (g blanks s) (g comment s) rest.0 rest.1))
  where
    cut : (p q : Bool) (u v : List ℕ) → length u ≤ length s → length v ≤ length s → length (if p then u else (if q then v else b ∷ s)) ≤ length (b ∷ s)
    cut true q u v hu hv = omega (arith, hu)
    cut false true u v hu hv = omega (arith, hv)
    cut false false u v hu hv = omega arith

-- a text that is left whole begins with no gap
whole_outside : {P : Type 0} (g : P → List ℕ → List ℕ) (blanks comment : P) → Walks g blanks comment → (b : ℕ) (s : List ℕ) → g blanks (b ∷ s) ≡ b ∷ s → (is_separator b ≡ false) × (opens_comment (b ∷ s) ≡ false)
whole_outside g blanks comment w b s e =
    let rest = shorter g blanks comment w s in
    none (is_separator b) (opens_comment (b ∷ s)) (g blanks s) (g comment s) rest.0 rest.1 (sym (w.outside b s) ∙ e)
  where
    none : (p q : Bool) (u v : List ℕ) → length u ≤ length s → length v ≤ length s → (if p then u else (if q then v else b ∷ s)) ≡ b ∷ s → (p ≡ false) × (q ≡ false)
    none true q u v hu hv e = absurd (omega (arith, hu, ap length e))
    none false true u v hu hv e = absurd (omega (arith, hv, ap length e))
    none false false u v hu hv e = (refl, refl)

-- a byte of the source is left in no comment
whole_inside : {P : Type 0} (g : P → List ℕ → List ℕ) (blanks comment : P) → Walks g blanks comment → (b : ℕ) (s : List ℕ) → is_source_byte b ≡ true → g comment (b ∷ s) ≡ b ∷ s → ⊥
whole_inside g blanks comment w b s source e =
    let rest = shorter g blanks comment w s in
    none (b == newline) (is_source_byte b) (g blanks s) (g comment s) rest.0 rest.1 source (sym (w.inside b s) ∙ e)
  where
    none : (p q : Bool) (u v : List ℕ) → length u ≤ length s → length v ≤ length s → q ≡ true → (if p then u else (if q then v else b ∷ s)) ≡ b ∷ s → ⊥
    none true q u v hu hv yes_ e = absurd (omega (arith, hu, ap length e))
    none false true u v hu hv yes_ e = absurd (omega (arith, hv, ap length e))
    none false false u v hu hv yes_ e = false≢true yes_

-- two bytes or none open a comment
opens_two : (c d : ℕ) (s t : List ℕ) → opens_comment (c ∷ d ∷ s) ≡ opens_comment (c ∷ d ∷ t)
unfolding opens_comment
opens_two c d s t = refl

-- a gap before a text is a gap before another that begins with none, and the text begins with none
pub record IsKept {P : Type 0} (g : P → List ℕ → List ℕ) (part : P) (gap : List ℕ) (b : ℕ) (s : List ℕ) : Type 0 where
  pub first : (is_separator b ≡ false) × (opens_comment (b ∷ s) ≡ false)
  pub kept : (c : ℕ) (t : List ℕ) → is_separator c ≡ false → opens_comment (c ∷ t) ≡ false → g part (gap ++ (c ∷ t)) ≡ c ∷ t

-- what stands outside or inside of a comment
pub gap_kept : {P : Type 0} (g : P → List ℕ → List ℕ) (blanks comment : P) → Walks g blanks comment → (gap : List ℕ) (b : ℕ) (s : List ℕ) → is_source_byte b ≡ true
    → (g blanks (gap ++ (b ∷ s)) ≡ b ∷ s → IsKept g blanks gap b s) × (g comment (gap ++ (b ∷ s)) ≡ b ∷ s → IsKept g comment gap b s)
gap_kept g blanks comment w [] b s source = (
  λ e. record {
    first = whole_outside g blanks comment w b s e;
    kept = λ c t separates opens. w.outside c t ∙ rw (separates, opens) refl;
  },
  λ e. absurd (whole_inside g blanks comment w b s source e),
)
gap_kept g blanks comment w (d ∷ gap) b s source =
    let rest = gap_kept g blanks comment w gap b s source in (
      λ e. outside (is_separator d) refl rest.0 rest.1 (sym (w.outside d (gap ++ (b ∷ s))) ∙ e),
      λ e. inside (d == newline) (is_source_byte d) refl refl rest.0 rest.1 (sym (w.inside d (gap ++ (b ∷ s))) ∙ e),
    )
  where
    same_opens : (gap : List ℕ) (c : ℕ) (t : List ℕ) → (gap ≡ [] → ⊥) → opens_comment (d ∷ (gap ++ (b ∷ s))) ≡ opens_comment (d ∷ (gap ++ (c ∷ t)))
    same_opens [] c t some = absurd (some refl)
    same_opens (x ∷ gap) c t some = opens_two d x (gap ++ (b ∷ s)) (gap ++ (c ∷ t))

    too_long : {A : Type 0} → d ∷ (gap ++ (b ∷ s)) ≡ b ∷ s → A
    too_long e = absurd (omega (arith, ap length e, length-append gap (b ∷ s)))

    no_slash : (gap ≡ [] → ⊥) → (rest : g comment (gap ++ (b ∷ s)) ≡ b ∷ s) → IsKept g comment gap b s → opens_comment (d ∷ (gap ++ (b ∷ s))) ≡ true → is_separator d ≡ false → IsKept g blanks (d ∷ gap) b s
    no_slash some rest_is kept opens separates = record {
      first = kept.first;
      kept = λ c t separates' opens'. w.outside d (gap ++ (c ∷ t)) ∙ rw (separates, sym (same_opens gap c t some) ∙ opens) (kept.kept c t separates' opens');
    }

    empty_none : (gap' : List ℕ) → gap ≡ gap' → g comment (gap ++ (b ∷ s)) ≡ b ∷ s → gap ≡ [] → ⊥
    empty_none gap' e h none = whole_inside g blanks comment w b s source (ap (λ l. g comment (l ++ (b ∷ s))) (sym none) ∙ h)

    outside : (p : Bool) → is_separator d ≡ p → (g blanks (gap ++ (b ∷ s)) ≡ b ∷ s → IsKept g blanks gap b s) → (g comment (gap ++ (b ∷ s)) ≡ b ∷ s → IsKept g comment gap b s)
        → (if p then g blanks (gap ++ (b ∷ s)) else (if opens_comment (d ∷ (gap ++ (b ∷ s))) then g comment (gap ++ (b ∷ s)) else d ∷ (gap ++ (b ∷ s)))) ≡ b ∷ s → IsKept g blanks (d ∷ gap) b s
    outside true separates more more' e =
        let kept = more e in
        record {
          first = kept.first;
          kept = λ c t separates' opens'. w.outside d (gap ++ (c ∷ t)) ∙ rw separates (kept.kept c t separates' opens');
        }
    outside false separates more more' e = elim (cases_Bool (opens_comment (d ∷ (gap ++ (b ∷ s))))) [
      | inl opens ↦
          let h : g comment (gap ++ (b ∷ s)) ≡ b ∷ s = rw opens at e in
          no_slash (empty_none gap refl h) h (more' h) opens separates
      | inr other ↦
          let h : d ∷ (gap ++ (b ∷ s)) ≡ b ∷ s = rw other at e in
          too_long h
    ]

    inside : (p q : Bool) → (d == newline) ≡ p → is_source_byte d ≡ q → (g blanks (gap ++ (b ∷ s)) ≡ b ∷ s → IsKept g blanks gap b s) → (g comment (gap ++ (b ∷ s)) ≡ b ∷ s → IsKept g comment gap b s)
        → (if p then g blanks (gap ++ (b ∷ s)) else (if q then g comment (gap ++ (b ∷ s)) else d ∷ (gap ++ (b ∷ s)))) ≡ b ∷ s → IsKept g comment (d ∷ gap) b s
    inside true q ends source_d more more' e =
        let kept = more e in
        record {
          first = kept.first;
          kept = λ c t separates' opens'. w.inside d (gap ++ (c ∷ t)) ∙ rw ends (kept.kept c t separates' opens');
        }
    inside false true ends source_d more more' e =
        let kept = more' e in
        record {
          first = kept.first;
          kept = λ c t separates' opens'. w.inside d (gap ++ (c ∷ t)) ∙ rw (ends, source_d) (kept.kept c t separates' opens');
        }
    inside false false ends source_d more more' e = too_long e

-- the first byte of a gap
front_byte : {P : Type 0} (g : P → List ℕ → List ℕ) (blanks comment : P) → Walks g blanks comment → (b : ℕ) (s y : List ℕ) → g blanks (b ∷ s) ≡ y → length y < length (b ∷ s) → (is_separator b ≡ true) ⊎ (b ≡ slash)
unfolding opens_comment
front_byte g blanks comment w b s y e h = by_tests (is_separator b) (opens_comment (b ∷ s)) refl refl (sym (w.outside b s) ∙ e)
  where
    opens_slash : (b : ℕ) (s : List ℕ) → opens_comment (b ∷ s) ≡ true → b ≡ slash
    opens_slash b [] e = absurd (false≢true e)
    opens_slash b (c ∷ s) e = eqb-true b slash (and_parts (b == slash) (c == slash) e).0

    by_tests : (p q : Bool) → is_separator b ≡ p → opens_comment (b ∷ s) ≡ q → (if p then g blanks s else (if q then g comment s else b ∷ s)) ≡ y → (is_separator b ≡ true) ⊎ (b ≡ slash)
    by_tests true q separates opens e = inl separates
    by_tests false true separates opens e = inr (opens_slash b s opens)
    by_tests false false separates opens e = absurd (omega (arith, h, ap length e))

-- a gap begins with a separator or with the `/` of a comment
abbrev pub IsGapFront : List ℕ → Type 0
IsGapFront gap = (c : ℕ) (rest : List ℕ) → gap ≡ c ∷ rest → (is_separator c ≡ true) ⊎ (c ≡ slash)

gap_front_of : {P : Type 0} (g : P → List ℕ → List ℕ) (blanks comment : P) → Walks g blanks comment → ((s : List ℕ) → g comment s ≡ g comment (drop (prefix_len is_comment_byte s) s))
    → (gap y : List ℕ) → g blanks (gap ++ y) ≡ y → IsGapFront gap
gap_front_of g blanks comment w known [] y e c rest is = absurd (omega (arith, ap length is))
gap_front_of g blanks comment w known (b ∷ gap) y e c rest is =
    let same : b ≡ c = ap first is in
    subst (λ x. (is_separator x ≡ true) ⊎ (x ≡ slash)) same (front_byte g blanks comment w b (gap ++ y) y e (omega (arith, length-append gap y)))
  where
    first : List ℕ → ℕ
    first [] = 0
    first (x ∷ xs) = x

pub gap_front : (p : Piece) (minus : Bool) (after : List ℕ) → StandsBefore p minus after → IsGapFront p.gap
gap_front p minus after s = gap_front_of after_gap _ _ (record { ended = (refl, refl); outside = λ b t. refl; inside = λ b t. refl }) comment_gap p.gap (p.text ++ after) s.gap

end_front_of : {P : Type 0} (g : P → List ℕ → List ℕ) (blanks comment : P) → Walks g blanks comment → ((s : List ℕ) → g comment s ≡ g comment (drop (prefix_len is_comment_byte s) s))
    → (t : List ℕ) → g blanks (hash ∷ t) ≡ [] → ⊥
unfolding is_separator
end_front_of g blanks comment w known t e = no_hash hash refl (front_byte g blanks comment w hash t [] e (omega arith))
  where
    no_hash : (b : ℕ) → b ≡ hash → (is_separator b ≡ true) ⊎ (b ≡ slash) → ⊥
    no_hash b e h = grind (arith, nat_tests)

-- no `#` stands behind the last piece
pub end_front : (minus : Bool) (end t : List ℕ) → ArePiecesStanding minus [] end → end ≡ hash ∷ t → ⊥
end_front minus end t stands e =
    let here : ArePiecesStanding minus [] (hash ∷ t) = subst (λ s. ArePiecesStanding minus [] s) e stands in
    end_front_of after_gap _ _ (record { ended = (refl, refl); outside = λ b t. refl; inside = λ b t. refl }) comment_gap t here

-- ---- a gap before a new text

no_fault : (rule : Option ℕ) → earlier_fault rule (Some 0) ≡ None → ⊥
no_fault None e = cc
no_fault (Some n) e = cc

first_place : (p : ℕ → Bool) (b : ℕ) (x : List ℕ) → p b ≡ true → position p (b ∷ x) ≡ Some 0
first_place p b x e =
    let none : prefix_len (λ y. not (p y)) (b ∷ x) ≡ 0 = rw e refl in
    (λ i. if nat_lt (none i) (length (b ∷ x)) then Some (none i) else None) ∙ ap (λ t. if t then Some 0 else None) (lt-ltb 0 (length (b ∷ x)) (omega arith))

-- the first byte of a token that breaks no rule may stand in a source
pub first_source : (k : TokenKind) (b : ℕ) (x : List ℕ) (minus : Bool) → fault_of k (b ∷ x) minus ≡ None → is_source_byte b ≡ true
unfolding fault_of
first_source k b x minus e = elim (cases_Bool (is_source_byte b)) as (λ _. is_source_byte b ≡ true) [
  | inl yes_ ↦ yes_
  | inr no_ ↦ absurd (no_fault (rule_broken_by_token k (b ∷ x) minus) (sym (ap (earlier_fault (rule_broken_by_token k (b ∷ x) minus)) (first_place (λ c. not (is_source_byte c)) b x (not_from_false (is_source_byte b) no_))) ∙ e))
]

-- no token is a `/` alone
slash_form : (k : TokenKind) (after : List ℕ) → has_form k (slash ∷ []) after ≡ true → ⊥
unfolding has_form is_word_start forms.is_listed forms.is_entry forms.begins_with forms.based_prefixes forms.long_prefixes forms.count_prefixes forms.time_prefixes forms.s5time_prefixes marks mark_text forms.sign_words forms.title_words
slash_form Word after h = false≢true h
slash_form Number after h = false≢true h
slash_form Quoted after h = false≢true h
slash_form Local after h = false≢true h
slash_form Characters after h = false≢true h
slash_form Based after h = false≢true h
slash_form NumberLiteral after h = false≢true h
slash_form TimeLiteral after h = false≢true h
slash_form Mark after h = false≢true h
slash_form SignWord after h = false≢true h
slash_form Attribute after h = false≢true h
slash_form Title after h = false≢true h

-- a byte other than `/` opens no comment
no_comment : (b : ℕ) (s : List ℕ) → (b ≡ slash → ⊥) → opens_comment (b ∷ s) ≡ false
unfolding opens_comment
no_comment b [] other = refl
no_comment b (c ∷ s) other = and_none (b == slash) (c == slash) (false_from_ne_true (b == slash) (λ e. other (eqb-true b slash e)))
  where
    and_none : (p q : Bool) → p ≡ false → (p && q) ≡ false
    and_none p q e = ap (λ x. x && q) e

start_plain : (b : ℕ) → is_word_start b ≡ true → (is_separator b ≡ false) × (b ≡ slash → ⊥)
unfolding is_word_start is_separator
start_plain b e = (grind (arith, nat_tests), λ h. grind (arith, nat_tests))

-- what a new text begins with belongs to no gap
new_first : (before k : TokenKind) (b : ℕ) (x after : List ℕ) (c : ℕ) (w later : List ℕ) → has_form k (b ∷ x) after ≡ true → IsRewrittenText before k (b ∷ x) (c ∷ w)
    → (is_separator b ≡ false) × (opens_comment (b ∷ (x ++ after)) ≡ false) → (is_separator c ≡ false) × (opens_comment (c ∷ (w ++ later)) ≡ false)
unfolding is_separator
new_first before k b x after c w later fits (inl same) first =
    let head : b ≡ c = ap first_of same in
    let rest : x ≡ w = ap (drop 1) same in
    (ap is_separator (sym head) ∙ first.0, (λ i. opens_comment (sym head i ∷ (sym rest i ++ later))) ∙ opens x first.1 fits)
  where
    first_of : List ℕ → ℕ
    first_of [] = 0
    first_of (y ∷ ys) = y

    opens : (x : List ℕ) → opens_comment (b ∷ (x ++ after)) ≡ false → has_form k (b ∷ x) after ≡ true → opens_comment (b ∷ (x ++ later)) ≡ false
    opens [] e fits = no_comment b later (λ is. slash_form k after (subst (λ y. has_form k (y ∷ []) after ≡ true) is fits))
    opens (d ∷ x) e fits = opens_two b d (x ++ later) (x ++ after) ∙ e
new_first before k b x after c w later fits (inr (is, inl (new, why))) first =
    let start = start_plain c (and_parts (is_word_start c) (list_all is_word_byte w) new).0 in
    (start.0, no_comment c (w ++ later) start.1)
new_first before k b x after c w later fits (inr (is, inr (number, named))) first =
    let head : c ≡ hash = ap first_of named in
    (ap is_separator head, no_comment c (w ++ later) (λ e. hash_slash (sym head ∙ e)))
  where
    first_of : List ℕ → ℕ
    first_of [] = 0
    first_of (y ∷ ys) = y

    hash_slash : hash ≡ slash → ⊥
    hash_slash e = absurd (omega (arith, e))

gap_anew_of : {P : Type 0} (g : P → List ℕ → List ℕ) (blanks comment : P) → Walks g blanks comment → ((s : List ℕ) → g comment s ≡ g comment (drop (prefix_len is_comment_byte s) s))
    → (before k : TokenKind) (gap x after w later : List ℕ) (minus : Bool) → 0 < length x → 0 < length w → fault_of k x minus ≡ None → has_form k x after ≡ true → IsRewrittenText before k x w
    → g blanks (gap ++ (x ++ after)) ≡ x ++ after → g blanks (gap ++ (w ++ later)) ≡ w ++ later
gap_anew_of g blanks comment walks known before k gap [] after w later minus some some_w right fits r e = absurd (omega (arith, some))
gap_anew_of g blanks comment walks known before k gap (b ∷ x) after [] later minus some some_w right fits r e = absurd (omega (arith, some_w))
gap_anew_of g blanks comment walks known before k gap (b ∷ x) after (c ∷ w) later minus some some_w right fits r e =
    let kept = (gap_kept g blanks comment walks gap b (x ++ after) (first_source k b x minus right)).0 e in
    let first = new_first before k b x after c w later fits r kept.first in
    kept.kept c (w ++ later) first.0 first.1

-- a piece with a new text, where this is the longest token and right
pub piece_anew : (before : TokenKind) (p : Piece) (minus : Bool) (after w later : List ℕ) → StandsBefore p minus after → has_form p.kind p.text after ≡ true → IsRewrittenText before p.kind p.text w
    → IsLongestToken (w ++ later) (kind_of_rewritten p.kind w) (length w) → fault_of (kind_of_rewritten p.kind w) w minus ≡ None → StandsBefore (record { gap = p.gap; kind = kind_of_rewritten p.kind w; text = w }) minus later
piece_anew before p minus after w later s fits r longest right = record {
  gap = gap_anew_of after_gap _ _ (record { ended = (refl, refl); outside = λ b t. refl; inside = λ b t. refl }) comment_gap before p.kind p.gap p.text after w later minus s.longest.fits.some longest.fits.some s.right fits r s.gap;
  longest = longest;
  right = right;
}
