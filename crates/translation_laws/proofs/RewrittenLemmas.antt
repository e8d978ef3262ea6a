-- A source that is written anew has the tokens that its texts say.
use Rattle.std.proofs.Common.{◌≡◌, ℕ, ◌+◌, ◌-◌, ◌≤◌, Bool, true, false, List, [], ◌∷◌, ◌++◌, length, take, drop, None, refl, sym, ◌∙◌, ap, subst, arith, inl, inr}
use Rattle.std.specs.Prelude.{◌==◌, slice_range, sum_by}
use Rattle.std.specs.List.{list_all}
use Rattle.std.proofs.lemmas.Bool.{and_parts, and_from, false≢true, false_from_ne_true, eqb-true}
use Rattle.std.proofs.lemmas.List.{append_assoc, drop-drop, length-append, length-drop, length-take-le, take-append-drop}
use Rattle.std.proofs.lemmas.List.Sums.{sum_by-append}
use Rattle.std.proofs.Math.Seq.{drop-append_seam, take-append_seam}
use Rattle.stl_lexer.specs.declared.kinds.TokenKind.{TokenKind}
use Rattle.stl_lexer.specs.declared.kinds.TokenKind.TheVariants.{Word, Number, Quoted, Local, Characters, Based, NumberLiteral, TimeLiteral, Mark, SignWord, Attribute, Title}
use Rattle.stl_lexer.specs.declared.kinds.Token.{Token}
use Rattle.stl_lexer.specs.Bytes.{hash, is_source_byte, is_separator, is_word_byte, is_word_start}
use Rattle.stl_lexer.specs.Forms.{has_form, is_word}
use Rattle.stl_lexer.specs.Gap.{is_comment_byte, line_at, newlines_of}
use Rattle.stl_lexer.specs.Longest.{IsLongestToken}
use Rattle.stl_lexer.specs.Pieces.{Piece, ArePiecesStanding, ShowPieces, text_of_pieces, tokens_of}
use Rattle.stl_lexer.specs.Rules.{fault_of, rule_broken_by_token, earlier_fault}
use Rattle.stl_lexer.specs.Tokens.{AreTokens, TokensFollow, IsEndOfTokens, IsNextToken, is_minus, text_of}
use Rattle.stl_lexer.proofs.LineLemmas.{line_at_end}
use Rattle.stl_lexer.proofs.PieceLemmas.{pieces_read}
use Rattle.stl_lexer.proofs.PlainLemmas.{no_lines, none_foreign, plain_word}
use Rattle.translation_laws.specs.RewrittenText.{AreRewrittenTexts, IsRewrittenText, RewritingKeepsTokens, ShowRewrittenTexts, kind_of_rewritten, rewritten_source}
use Rattle.translation_laws.proofs.TextLemmas.{alike_self, fronts_alike}
use Rattle.translation_laws.proofs.GapsLemmas.{piece_anew}
use Rattle.translation_laws.proofs.AheadLemmas.{ArePiecesAnew, Front, IsNameFront, anew, fits_here, front_of, heads_same, name_of, start_hash, word_of}
use Rattle.translation_laws.proofs.EndingLemmas.{word_ends}
use Rattle.translation_laws.proofs.WordStandLemmas.{attribute_stands, characters_stand, name_ends, name_stands, number_stands, quoted_stands, word_stands}
use Rattle.translation_laws.proofs.WordTableLemmas.{KeepsSigns, signs_of, table_stands}

-- ---- one piece

kind_kept : (w : List ℕ) → is_word w ≡ true → kind_of_rewritten Word w ≡ Word
kind_kept [] e = absurd (false≢true e)
kind_kept (b ∷ w) e =
    let other : (b == hash) ≡ false = false_from_ne_true (b == hash) (λ h. start_hash b (and_parts (is_word_start b) (list_all is_word_byte w) e).0 (eqb-true b hash h)) in
    rw other refl

word_text : (x after : List ℕ) → IsLongestToken (x ++ after) Word (length x) → is_word x ≡ true
unfolding has_form
word_text x after l = fits_here Word x after l

-- a local name with the same text
same_local : (x after later : List ℕ) → IsLongestToken (x ++ after) Local (length x) → has_form Local x after ≡ true → Front Local after later → IsLongestToken (x ++ later) Local (length x)
unfolding has_form
same_local [] after later l fits f = absurd (false≢true fits)
same_local (b ∷ x) after later l fits f =
    let parts = and_parts (b == hash) (is_word x) fits in
    let first : b ≡ hash = eqb-true b hash parts.0 in
    let here = subst (λ c. IsLongestToken ((c ∷ x) ++ after) Local (length (c ∷ x))) first l in
    let ends = name_ends x after parts.1 here in
    subst (λ c. IsLongestToken ((c ∷ x) ++ later) Local (length (c ∷ x))) (sym first)
    (name_stands x later parts.1 (heads_same is_word_byte Local after later ends f ∙ ends))

-- a token with the same text
same_stands : (k : TokenKind) (x after later : List ℕ) → IsLongestToken (x ++ after) k (length x) → Front k after later → IsNameFront later → KeepsSigns after later → IsLongestToken (x ++ later) (kind_of_rewritten k x) (length x)
same_stands Word x after later l f name signs =
    let word = word_text x after l in
    subst (λ k. IsLongestToken (x ++ later) k (length x)) (sym (kind_kept x word))
    (word_stands Word x x after later refl l f name word (inl (fronts_alike x x (alike_self x) refl)))
same_stands Number x after later l f name signs = number_stands x after later l f
same_stands Quoted x after later l f name signs = quoted_stands x after later l
same_stands Local x after later l f name signs = same_local x after later l (fits_here Local x after l) f
same_stands Characters x after later l f name signs = characters_stand x after later l
same_stands Based x after later l f name signs = table_stands Based x after later refl l f signs
same_stands NumberLiteral x after later l f name signs = table_stands NumberLiteral x after later refl l f signs
same_stands TimeLiteral x after later l f name signs = table_stands TimeLiteral x after later refl l f signs
same_stands Mark x after later l f name signs = table_stands Mark x after later refl l f signs
same_stands SignWord x after later l f name signs = table_stands SignWord x after later refl l f signs
same_stands Attribute x after later l f name signs = attribute_stands x after later l
same_stands Title x after later l f name signs = table_stands Title x after later refl l f signs

new_stands : (before k : TokenKind) (x w after later : List ℕ) → IsRewrittenText before k x w → IsLongestToken (x ++ after) k (length x) → Front k after later → IsNameFront later → KeepsSigns after later → IsLongestToken (w ++ later) (kind_of_rewritten k w) (length w)
new_stands before k x w after later (inl same) l f name signs =
    subst (λ v. IsLongestToken (v ++ later) (kind_of_rewritten k v) (length v)) same (same_stands k x after later l f name signs)
new_stands before k x w after later (inr (is, inl (new, why))) l f name signs =
    subst (λ kind. IsLongestToken (w ++ later) kind (length w)) (sym (ap (λ kind. kind_of_rewritten kind w) is ∙ kind_kept w new))
    (word_stands k x w after later is l (subst (λ kind. Front kind after later) is f) name new why)
new_stands before k x w after later (inr (is, inr (number, named))) l f name signs =
    let long = subst (λ kind. IsLongestToken (x ++ after) kind (length x)) is l in
    let ends = word_ends x after long in
    let kind_is : kind_of_rewritten k w ≡ Local = (λ i. kind_of_rewritten (is i) (named i)) in
    subst (λ kind. IsLongestToken (w ++ later) kind (length w)) (sym kind_is)
    (subst (λ v. IsLongestToken (v ++ later) Local (length v)) (sym named) (name_stands x later (word_text x after long) (heads_same is_word_byte k after later ends f ∙ ends)))

word_right : (w : List ℕ) (minus : Bool) → is_word w ≡ true → fault_of Word w minus ≡ None
unfolding fault_of rule_broken_by_token has_form
word_right w minus e = ap (earlier_fault None) (none_foreign w (plain_word w [] e))

name_right : (w : List ℕ) (minus : Bool) → is_word w ≡ true → fault_of Local (hash ∷ w) minus ≡ None
unfolding fault_of rule_broken_by_token has_form is_comment_byte is_source_byte is_separator
name_right w minus e = ap (earlier_fault None) (none_foreign (hash ∷ w) (and_from (is_comment_byte hash) (list_all is_comment_byte w) refl (plain_word w [] e)))

same_kind : (k : TokenKind) (x after : List ℕ) → has_form k x after ≡ true → kind_of_rewritten k x ≡ k
unfolding has_form
same_kind Word x after e = kind_kept x e
same_kind Number x after e = refl
same_kind Quoted x after e = refl
same_kind Local x after e = refl
same_kind Characters x after e = refl
same_kind Based x after e = refl
same_kind NumberLiteral x after e = refl
same_kind TimeLiteral x after e = refl
same_kind Mark x after e = refl
same_kind SignWord x after e = refl
same_kind Attribute x after e = refl
same_kind Title x after e = refl

new_right : (before k : TokenKind) (x w after : List ℕ) (minus : Bool) → IsRewrittenText before k x w → has_form k x after ≡ true → fault_of k x minus ≡ None → fault_of (kind_of_rewritten k w) w minus ≡ None
new_right before k x w after minus (inl same) fits right =
    subst (λ v. fault_of (kind_of_rewritten k v) v minus ≡ None) same (ap (λ kind. fault_of kind x minus) (same_kind k x after fits) ∙ right)
new_right before k x w after minus (inr (is, inl (new, why))) fits right =
    ap (λ kind. fault_of kind w minus) (ap (λ kind. kind_of_rewritten kind w) is ∙ kind_kept w new) ∙ word_right w minus new
new_right before k x w after minus (inr (is, inr (number, named))) fits right =
    (λ i. fault_of (kind_of_rewritten (is i) (named i)) (named i) minus) ∙ name_right x minus (word_of k x after fits is)

new_minus : (before k : TokenKind) (x w after : List ℕ) → IsRewrittenText before k x w → has_form k x after ≡ true → is_minus k x ≡ is_minus (kind_of_rewritten k w) w
unfolding is_minus
new_minus before k x w after (inl same) fits =
    subst (λ v. is_minus k x ≡ is_minus (kind_of_rewritten k v) v) same (ap (λ kind. is_minus kind x) (sym (same_kind k x after fits)))
new_minus before k x w after (inr (is, inl (new, why))) fits =
    ap (λ kind. is_minus kind x) is ∙ sym (ap (λ kind. is_minus kind w) (ap (λ kind. kind_of_rewritten kind w) is ∙ kind_kept w new))
new_minus before k x w after (inr (is, inr (number, named))) fits =
    ap (λ kind. is_minus kind x) is ∙ sym (λ i. is_minus (kind_of_rewritten (is i) (named i)) (named i))

-- ---- all pieces

-- pieces with new texts stand
stand : (before : TokenKind) (minus : Bool) (ps : List Piece) (ws : List (List ℕ)) (end : List ℕ) → ArePiecesStanding minus ps end → ArePiecesAnew before ps ws → ArePiecesStanding minus (anew ps ws) end
stand before minus [] [] end s r = s
stand before minus [] (w ∷ ws) end s r = absurd r
stand before minus (p ∷ ps) [] end s r = absurd r
stand before minus (p ∷ ps) (w ∷ ws) end (s, ss) (r, rs) =
    let after : List ℕ = text_of_pieces ps end in
    let later : List ℕ = text_of_pieces (anew ps ws) end in
    let fits = fits_here p.kind p.text after s.longest in
    let front = front_of p.kind (is_minus p.kind p.text) ps ws end ss rs in
    let name = name_of p.kind (is_minus p.kind p.text) ps ws end ss rs in
    let signs : KeepsSigns after later = signs_of p.kind (is_minus p.kind p.text) ps ws end ss rs in (
      piece_anew before p minus after w later s fits r (new_stands before p.kind p.text w after later r s.longest front name signs) (new_right before p.kind p.text w after minus r fits s.right),
      subst (λ m. ArePiecesStanding m (anew ps ws) end) (new_minus before p.kind p.text w after r fits) (stand p.kind (is_minus p.kind p.text) ps ws end ss rs),
    )

-- ---- the pieces of a source

-- the pieces of a source from a place on
abbrev pieces_of : List ℕ → ℕ → List Token → List Piece
pieces_of source from [] = []
pieces_of source from (t ∷ ts) = record { gap = slice_range source from t.start; kind = t.kind; text = text_of source t } ∷ pieces_of source t.end ts

-- what stands behind the last
abbrev rest_of : List ℕ → ℕ → List Token → List ℕ
rest_of source from [] = drop from source
rest_of source from (t ∷ ts) = rest_of source t.end ts

-- tokens that follow one another up to the source's end
abbrev ToEnd : List ℕ → ℕ → Bool → List Token → Type 0
ToEnd source from minus ts = TokensFollow source (λ at m. IsEndOfTokens source at) from minus ts

slice_rest : (source : List ℕ) (a b : ℕ) → a ≤ b → slice_range source a b ++ drop b source ≡ drop a source
slice_rest source a b h =
    let there : a + (b - a) ≡ b = omega (arith, h) in
    let rest : drop b source ≡ drop (b - a) (drop a source) = ap (λ k. drop k source) (sym there) ∙ sym (drop-drop (b - a) a source) in
    ap (λ l. take (b - a) (drop a source) ++ l) rest ∙ take-append-drop (b - a) (drop a source)

spelled_is : (source : List ℕ) (from : ℕ) (minus : Bool) (ts : List Token) → ToEnd source from minus ts → text_of_pieces (pieces_of source from ts) (rest_of source from ts) ≡ drop from source
spelled_is source from minus [] h = refl
spelled_is source from minus (t ∷ ts) (next, others) =
    ap (λ l. slice_range source from t.start ++ (text_of source t ++ l)) (spelled_is source t.end (is_minus t.kind (text_of source t)) ts others)
    ∙ ap (λ l. slice_range source from t.start ++ l) (slice_rest source t.start t.end (omega (arith, next.forward)))
    ∙ slice_rest source from t.start next.start.forward

-- tokens are pieces that stand
pieces_stand : (source : List ℕ) (from : ℕ) (minus : Bool) (ts : List Token) → ToEnd source from minus ts → ArePiecesStanding minus (pieces_of source from ts) (rest_of source from ts)
pieces_stand source from minus [] h = h
pieces_stand source from minus (t ∷ ts) (next, others) =
    let rest = spelled_is source t.end (is_minus t.kind (text_of source t)) ts others in
    let there : text_of source t ++ text_of_pieces (pieces_of source t.end ts) (rest_of source t.end ts) ≡ drop t.start source =
    ap (λ l. text_of source t ++ l) rest ∙ slice_rest source t.start t.end (omega (arith, next.forward)) in
    let whole : slice_range source from t.start ++ (text_of source t ++ text_of_pieces (pieces_of source t.end ts) (rest_of source t.end ts)) ≡ drop from source =
    ap (λ l. slice_range source from t.start ++ l) there ∙ slice_rest source from t.start next.start.forward in
    let size : length (text_of source t) ≡ t.end - t.start =
    length-take-le (t.end - t.start) (drop t.start source) (omega (arith, length-drop t.start source, next.within, next.forward)) in (
      record {
        gap = rw (whole, there) (sym next.start.gap);
        longest = subst (λ l. IsLongestToken l t.kind (length (text_of source t))) (sym there) (subst (λ n. IsLongestToken (drop t.start source) t.kind n) (sym size) next.longest);
        right = next.right;
      },
      pieces_stand source t.end (is_minus t.kind (text_of source t)) ts others,
    )

pieces_anew : (source : List ℕ) (before : TokenKind) (from : ℕ) (ts : List Token) (ws : List (List ℕ)) → AreRewrittenTexts source before ts ws → ArePiecesAnew before (pieces_of source from ts) ws
pieces_anew source before from [] [] r = tt
pieces_anew source before from [] (w ∷ ws) r = absurd r
pieces_anew source before from (t ∷ ts) [] r = absurd r
pieces_anew source before from (t ∷ ts) (w ∷ ws) (r, rs) = (r, pieces_anew source t.kind t.end ts ws rs)

-- a source that is written anew is spelled by its pieces with their new texts
rewritten_is : (source : List ℕ) (before : TokenKind) (from : ℕ) (ts : List Token) (ws : List (List ℕ)) → AreRewrittenTexts source before ts ws → rewritten_source source from ts ws ≡ text_of_pieces (anew (pieces_of source from ts) ws) (rest_of source from ts)
rewritten_is source before from [] [] r = refl
rewritten_is source before from [] (w ∷ ws) r = absurd r
rewritten_is source before from (t ∷ ts) [] r = absurd r
rewritten_is source before from (t ∷ ts) (w ∷ ws) (r, rs) = ap (λ l. slice_range source from t.start ++ (w ++ l)) (rewritten_is source t.kind t.end ts ws rs)

-- ---- the tokens of the new text

hash_lines : (x : List ℕ) → sum_by newlines_of x ≡ sum_by newlines_of (hash ∷ x)
hash_lines x = omega (arith, sum_by-append newlines_of (hash ∷ []) x)

new_lines : (before k : TokenKind) (x w after : List ℕ) → IsRewrittenText before k x w → has_form k x after ≡ true → sum_by newlines_of x ≡ sum_by newlines_of w
unfolding has_form
new_lines before k x w after (inl same) fits = ap (sum_by newlines_of) same
new_lines before k x w after (inr (is, inl (new, why))) fits = word_lines x (word_of k x after fits is) ∙ sym (word_lines w new)
  where
    word_lines : (w : List ℕ) → is_word w ≡ true → sum_by newlines_of w ≡ 0
    word_lines w e = no_lines w (plain_word w [] e)
new_lines before k x w after (inr (is, inr (number, named))) fits = hash_lines x ∙ sym (ap (sum_by newlines_of) named)

-- the tokens have the new texts, and their lines
shown_from : (source g : List ℕ) (before : TokenKind) (from : ℕ) (minus : Bool) (ts : List Token) (ws : List (List ℕ)) (at line : ℕ) → ToEnd source from minus ts → AreRewrittenTexts source before ts ws → line ≡ line_at source from
    → ShowPieces g (anew (pieces_of source from ts) ws) (tokens_of at line (anew (pieces_of source from ts) ws)) → ShowRewrittenTexts g ts ws (tokens_of at line (anew (pieces_of source from ts) ws))
shown_from source g before from minus [] [] at line h r line_is s = tt
shown_from source g before from minus [] (w ∷ ws) at line h r line_is s = absurd r
shown_from source g before from minus (t ∷ ts) [] at line h r line_is s = absurd r
shown_from source g before from minus (t ∷ ts) (w ∷ ws) at line (next, others) (r, rs) line_is (kind, text, rest) =
    let gap : List ℕ = slice_range source from t.start in
    let begins : line + sum_by newlines_of gap ≡ line_at source t.start = ap (λ n. n + sum_by newlines_of gap) line_is ∙ line_at_end source from t.start next.start.forward in
    let fits = form_of source t next in
    let ends : line + sum_by newlines_of gap + sum_by newlines_of w ≡ line_at source t.end =
    (λ i. begins i + sym (new_lines before t.kind (text_of source t) w (drop t.end source) r fits) i) ∙ line_at_end source t.start t.end (omega (arith, next.forward)) in
    (refl, text, begins ∙ sym next.line, shown_from source g t.kind t.end (is_minus t.kind (text_of source t)) ts ws (at + length gap + length w) (line + sum_by newlines_of gap + sum_by newlines_of w) others rs ends rest)
  where
    form_of : (source : List ℕ) (t : Token) → IsNextToken source from minus t → has_form t.kind (text_of source t) (drop t.end source) ≡ true
    form_of source t next =
        let there : t.start + (t.end - t.start) ≡ t.end = omega (arith, next.forward) in
        ap (λ s. has_form t.kind (text_of source t) s) (ap (λ k. drop k source) (sym there) ∙ sym (drop-drop (t.end - t.start) t.start source)) ∙ next.longest.fits.fits

-- a text that is written anew once more is written anew from the source
again_from : (source g before : List ℕ) (kind : TokenKind) (from at line : ℕ) (ts : List Token) (ws vs : List (List ℕ)) → AreRewrittenTexts source kind ts ws → length vs ≡ length ts
    → g ≡ before ++ text_of_pieces (anew (pieces_of source from ts) ws) (rest_of source from ts) → at ≡ length before → rewritten_source g at (tokens_of at line (anew (pieces_of source from ts) ws)) vs ≡ rewritten_source source from ts vs
again_from source g before kind from at line [] [] [] r size g_is at_is = rw (g_is, at_is) (drop-append_seam before (drop from source))
again_from source g before kind from at line [] [] (v ∷ vs) r size g_is at_is = absurd (omega (arith, size))
again_from source g before kind from at line [] (w ∷ ws) vs r size g_is at_is = absurd r
again_from source g before kind from at line (t ∷ ts) [] vs r size g_is at_is = absurd r
again_from source g before kind from at line (t ∷ ts) (w ∷ ws) [] r size g_is at_is = absurd (omega (arith, size))
again_from source g before kind from at line (t ∷ ts) (w ∷ ws) (v ∷ vs) (r, rs) size g_is at_is =
    let gap : List ℕ = slice_range source from t.start in
    let rest : List ℕ = text_of_pieces (anew (pieces_of source t.end ts) ws) (rest_of source t.end ts) in
    let more : (at + length gap) - at ≡ length gap = omega arith in
    let here : slice_range g at (at + length gap) ≡ gap =
    ap (λ n. take n (drop at g)) more ∙ ap (take (length gap)) (ap (λ s. drop at s) g_is ∙ ap (λ n. drop n (before ++ (gap ++ (w ++ rest)))) at_is ∙ drop-append_seam before (gap ++ (w ++ rest))) ∙ take-append_seam gap (w ++ rest) in
    let whole : g ≡ (before ++ gap ++ w) ++ rest = g_is ∙ sym (append_assoc before gap (w ++ rest)) ∙ sym (append_assoc (before ++ gap) w rest) in
    let there : at + length gap + length w ≡ length (before ++ gap ++ w) = omega (arith, at_is, length-append before gap, length-append (before ++ gap) w) in
    let others = again_from source g (before ++ gap ++ w) t.kind t.end (at + length gap + length w) (line + sum_by newlines_of gap + sum_by newlines_of w) ts ws vs rs (omega (arith, size)) whole there in
    λ i. here i ++ (v ++ others i)

first_line : (source : List ℕ) → 1 ≡ line_at source 0
unfolding line_at
first_line source = refl

-- a source that is written anew has the tokens that its texts say
pub rewritten_tokens : RewritingKeepsTokens
unfolding AreTokens
rewritten_tokens source ts ws tokens r =
    let ps : List Piece = pieces_of source 0 ts in
    let end : List ℕ = rest_of source 0 ts in
    let stands = stand Mark false ps ws end (pieces_stand source 0 false ts tokens) (pieces_anew source Mark 0 ts ws r) in
    let read = pieces_read (anew ps ws) end stands in
    let text : text_of_pieces (anew ps ws) end ≡ rewritten_source source 0 ts ws = sym (rewritten_is source Mark 0 ts ws r) in
    record {
      us = tokens_of 0 1 (anew ps ws);
      tokens = subst (λ g. AreTokens g (tokens_of 0 1 (anew ps ws))) text read.0;
      shows = shown_from source (rewritten_source source 0 ts ws) Mark 0 false ts ws 0 1 tokens r (first_line source) (subst (λ g. ShowPieces g (anew ps ws) (tokens_of 0 1 (anew ps ws))) text read.1);
      again = λ vs size. again_from source (rewritten_source source 0 ts ws) [] Mark 0 0 1 ts ws vs r size (sym text) refl;
    }
