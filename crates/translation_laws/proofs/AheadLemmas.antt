-- What stands behind a token, before and after words are written anew.
use Rattle.std.proofs.Common.{◌≡◌, ◌⊎◌, ℕ, ◌<◌, Bool, true, false, List, [], ◌∷◌, ◌++◌, length, drop, refl, sym, ◌∙◌, ap, subst, arith, inl, inr}
use Rattle.std.specs.List.{list_all}
use Rattle.std.proofs.lemmas.Bool.{and_parts, false≢true}
use Rattle.std.proofs.lemmas.Bool.Decides.{nat_tests}
use Rattle.std.proofs.Math.Seq.{drop-append_seam, take-append_seam}
use Rattle.stl_lexer.specs.declared.kinds.TokenKind.{TokenKind}
use Rattle.stl_lexer.specs.declared.kinds.TokenKind.TheVariants.{Word, Number, Quoted, Local, Characters, Based, NumberLiteral, TimeLiteral, Mark, SignWord, Attribute, Title}
use Rattle.stl_lexer.specs.Forms as forms
use Rattle.stl_lexer.specs.Bytes.{hash, slash, is_separator, is_word_byte, is_word_start}
use Rattle.stl_lexer.specs.Forms.{has_form, is_word, is_number, begins_with, based_prefixes, long_prefixes, count_prefixes, time_prefixes, s5time_prefixes, sign_words, title_words}
use Rattle.stl_lexer.specs.Longest.{IsLongestToken}
use Rattle.stl_lexer.specs.Marks.{marks, mark_text}
use Rattle.stl_lexer.specs.Pieces.{Piece, ArePiecesStanding, text_of_pieces}
use Rattle.translation_laws.specs.RewrittenText.{IsRewrittenText, kind_of_rewritten}
use Rattle.translation_laws.proofs.GapsLemmas.{IsGapFront, end_front, gap_front}
use Rattle.translation_laws.proofs.TextLemmas.{heads, start_word}

-- pieces with new texts
abbrev pub anew : List Piece → List (List ℕ) → List Piece
anew [] words = []
anew (p ∷ ps) [] = []
anew (p ∷ ps) (w ∷ ws) = record { gap = p.gap; kind = kind_of_rewritten p.kind w; text = w } ∷ anew ps ws

-- each piece is written anew as the text in its place
abbrev pub ArePiecesAnew : TokenKind → List Piece → List (List ℕ) → Type 0
ArePiecesAnew before [] [] = Unit {0}
ArePiecesAnew before [] (w ∷ ws) = ⊥
ArePiecesAnew before (p ∷ ps) [] = ⊥
ArePiecesAnew before (p ∷ ps) (w ∷ ws) = IsRewrittenText before p.kind p.text w × ArePiecesAnew p.kind ps ws

-- how the text behind a token differs from what it was, at its first byte
pub data Front (before : TokenKind) (after later : List ℕ) : Type 0 where
  Over : after ≡ [] → later ≡ [] → Front before after later
  Same : (b : ℕ) (s t : List ℕ) → after ≡ b ∷ s → later ≡ b ∷ t → Front before after later
  Words : (b c : ℕ) (s t : List ℕ) → after ≡ b ∷ s → later ≡ c ∷ t → is_word_start b ≡ true → is_word_start c ≡ true → Front before after later
  Named : (b : ℕ) (s t : List ℕ) → (before ≡ Number → ⊥) → after ≡ b ∷ s → later ≡ hash ∷ t → is_word_start b ≡ true → Front before after later

-- what a word begins with stood there before
pub heads_more : (p : ℕ → Bool) (k : TokenKind) (a l : List ℕ) → ((b : ℕ) → is_word_start b ≡ true → p b ≡ true) → Front k a l → heads p l ≡ true → heads p a ≡ true
heads_more p k a l starts (Over x y) h = absurd (false≢true (sym (ap (heads p) y) ∙ h))
heads_more p k a l starts (Same b s t x y) h = ap (heads p) x ∙ sym (ap (heads p) y) ∙ h
heads_more p k a l starts (Words b c s t x y sb sc) h = ap (heads p) x ∙ starts b sb
heads_more p k a l starts (Named b s t n x y sb) h = ap (heads p) x ∙ starts b sb

-- what neither a word nor a local name begins with stood there before
pub heads_other : (p : ℕ → Bool) (k : TokenKind) (a l : List ℕ) → ((b : ℕ) → is_word_start b ≡ true → p b ≡ true → ⊥) → (p hash ≡ true → ⊥) → Front k a l → heads p l ≡ true → heads p a ≡ true
heads_other p k a l other mark (Over x y) h = absurd (false≢true (sym (ap (heads p) y) ∙ h))
heads_other p k a l other mark (Same b s t x y) h = ap (heads p) x ∙ sym (ap (heads p) y) ∙ h
heads_other p k a l other mark (Words b c s t x y sb sc) h = absurd (other c sc (sym (ap (heads p) y) ∙ h))
heads_other p k a l other mark (Named b s t n x y sb) h = absurd (mark (sym (ap (heads p) y) ∙ h))

no_word : (b : ℕ) (s a : List ℕ) → a ≡ b ∷ s → is_word_start b ≡ true → heads is_word_byte a ≡ false → ⊥
no_word b s a x sb stops = false≢true (sym stops ∙ ap (heads is_word_byte) x ∙ start_word b sb)

-- the first byte stays where no word stood
pub heads_same : (p : ℕ → Bool) (k : TokenKind) (a l : List ℕ) → heads is_word_byte a ≡ false → Front k a l → heads p l ≡ heads p a
heads_same p k a l stops (Over x y) = ap (heads p) y ∙ sym (ap (heads p) x)
heads_same p k a l stops (Same b s t x y) = ap (heads p) y ∙ sym (ap (heads p) x)
heads_same p k a l stops (Words b c s t x y sb sc) = absurd (no_word b s a x sb stops)
heads_same p k a l stops (Named b s t n x y sb) = absurd (no_word b s a x sb stops)

-- a word stays one behind a number
pub heads_back : (a l : List ℕ) → Front Number a l → heads is_word_byte a ≡ true → heads is_word_byte l ≡ true
heads_back a l (Over x y) h = ap (heads is_word_byte) y ∙ sym (ap (heads is_word_byte) x) ∙ h
heads_back a l (Same b s t x y) h = ap (heads is_word_byte) y ∙ sym (ap (heads is_word_byte) x) ∙ h
heads_back a l (Words b c s t x y sb sc) h = ap (heads is_word_byte) y ∙ start_word c sc
heads_back a l (Named b s t n x y sb) h = absurd (n refl)

-- ---- pieces

-- a piece's text has the form of its kind
pub fits_here : (k : TokenKind) (x after : List ℕ) → IsLongestToken (x ++ after) k (length x) → has_form k x after ≡ true
fits_here k x after l = sym (λ i. has_form k (take-append_seam x after i) (drop-append_seam x after i)) ∙ l.fits.fits

pub word_of : (k : TokenKind) (x after : List ℕ) → has_form k x after ≡ true → k ≡ Word → is_word x ≡ true
unfolding has_form
word_of k x after h e = subst (λ kind. has_form kind x after ≡ true) e h

front_at : (before kind : TokenKind) (gap x w after later : List ℕ) → 0 < length x → (kind ≡ Word → is_word x ≡ true) → IsRewrittenText before kind x w → Front before (gap ++ (x ++ after)) (gap ++ (w ++ later))
front_at before kind (c ∷ gap) x w after later some word r = Same c (gap ++ (x ++ after)) (gap ++ (w ++ later)) refl refl
front_at before kind [] [] w after later some word r = absurd (omega (arith, some))
front_at before kind [] (b ∷ x) w after later some word (inl same) = Same b (x ++ after) (x ++ later) refl (ap (λ l. l ++ later) (sym same))
front_at before kind [] (b ∷ x) [] after later some word (inr (is, inl (new, why))) = absurd (false≢true new)
front_at before kind [] (b ∷ x) (c ∷ w) after later some word (inr (is, inl (new, why))) =
    Words b c (x ++ after) (w ++ later) refl refl (and_parts (is_word_start b) (list_all is_word_byte x) (word is)).0 (and_parts (is_word_start c) (list_all is_word_byte w) new).0
front_at before kind [] (b ∷ x) w after later some word (inr (is, inr (number, named))) =
    Named b (x ++ after) (b ∷ (x ++ later)) number refl (ap (λ l. l ++ later) named) (and_parts (is_word_start b) (list_all is_word_byte x) (word is)).0

-- what stands behind a token begins as before, or with a word's new text
pub front_of : (before : TokenKind) (minus : Bool) (ps : List Piece) (ws : List (List ℕ)) (end : List ℕ) → ArePiecesStanding minus ps end → ArePiecesAnew before ps ws → Front before (text_of_pieces ps end) (text_of_pieces (anew ps ws) end)
front_of before minus [] [] [] s r = Over refl refl
front_of before minus [] [] (b ∷ end) s r = Same b end end refl refl
front_of before minus [] (w ∷ ws) end s r = absurd r
front_of before minus (p ∷ ps) [] end s r = absurd r
front_of before minus (p ∷ ps) (w ∷ ws) end (s, ss) (r, rs) =
    front_at before p.kind p.gap p.text w (text_of_pieces ps end) (text_of_pieces (anew ps ws) end) s.longest.fits.some
    (λ e. word_of p.kind p.text (text_of_pieces ps end) (fits_here p.kind p.text (text_of_pieces ps end) s.longest) e) r

pub gap_word : (b : ℕ) → is_word_byte b ≡ true → (is_separator b ≡ true) ⊎ (b ≡ slash) → ⊥
unfolding is_word_byte is_word_start is_separator
gap_word b e h = grind (arith, nat_tests)

gap_hash : (b : ℕ) → b ≡ hash → (is_separator b ≡ true) ⊎ (b ≡ slash) → ⊥
unfolding is_separator
gap_hash b e h = grind (arith, nat_tests)

-- `#` at the front of what has a form is that of a local name
hash_first : (k : TokenKind) (s after : List ℕ) → has_form k (hash ∷ s) after ≡ true → is_word s ≡ true
unfolding has_form is_word_start forms.is_listed forms.is_entry begins_with based_prefixes long_prefixes count_prefixes time_prefixes s5time_prefixes marks mark_text sign_words title_words
hash_first Word s after h = absurd (false≢true h)
hash_first Number s after h = absurd (false≢true h)
hash_first Quoted s after h = absurd (false≢true h)
hash_first Local s after h = h
hash_first Characters s after h = absurd (false≢true h)
hash_first Based s after h = absurd (false≢true h)
hash_first NumberLiteral s after h = absurd (false≢true h)
hash_first TimeLiteral s after h = absurd (false≢true h)
hash_first Mark s after h = absurd (false≢true h)
hash_first SignWord s after h = absurd (false≢true h)
hash_first Attribute s after h = absurd (false≢true h)
hash_first Title s after h = absurd (false≢true h)

word_heads : (w s : List ℕ) → is_word w ≡ true → heads is_word_start (w ++ s) ≡ true
word_heads [] s e = absurd (false≢true e)
word_heads (b ∷ w) s e = (and_parts (is_word_start b) (list_all is_word_byte w) e).0

pub start_hash : (b : ℕ) → is_word_start b ≡ true → b ≡ hash → ⊥
unfolding is_word_start
start_hash b e h = grind (arith, nat_tests)

-- a `#` at the front of a text has a word behind it
abbrev pub IsNameFront : List ℕ → Type 0
IsNameFront later = (t : List ℕ) → later ≡ hash ∷ t → heads is_word_start t ≡ true

head_of : (b c : ℕ) (s t : List ℕ) → b ∷ s ≡ c ∷ t → (b ≡ c) × (s ≡ t)
head_of b c s t e = (ap first e, ap (drop 1) e)
  where
    first : List ℕ → ℕ
    first [] = 0
    first (x ∷ xs) = x

name_at : (before kind : TokenKind) (gap x w after later : List ℕ) → 0 < length x → has_form kind x after ≡ true → IsGapFront gap → IsRewrittenText before kind x w → IsNameFront (gap ++ (w ++ later))
name_at before kind (c ∷ gap) x w after later some fits gap_is r t e =
    absurd (gap_hash c (head_of c hash (gap ++ (w ++ later)) t e).0 (gap_is c gap refl))
name_at before kind [] [] w after later some fits gap_is r t e = absurd (omega (arith, some))
name_at before kind [] (b ∷ x) w after later some fits gap_is (inl same) t e =
    let there = head_of b hash (x ++ later) t (ap (λ l. l ++ later) same ∙ e) in
    let word : is_word x ≡ true = hash_first kind x after (subst (λ c. has_form kind (c ∷ x) after ≡ true) there.0 fits) in
    ap (heads is_word_start) (sym there.1) ∙ word_heads x later word
name_at before kind [] (b ∷ x) [] after later some fits gap_is (inr (is, inl (new, why))) t e = absurd (false≢true new)
name_at before kind [] (b ∷ x) (c ∷ w) after later some fits gap_is (inr (is, inl (new, why))) t e =
    absurd (start_hash c (and_parts (is_word_start c) (list_all is_word_byte w) new).0 (head_of c hash (w ++ later) t e).0)
name_at before kind [] (b ∷ x) w after later some fits gap_is (inr (is, inr (number, named))) t e =
    let there = head_of hash hash ((b ∷ x) ++ later) t (ap (λ l. l ++ later) (sym named) ∙ e) in
    ap (heads is_word_start) (sym there.1) ∙ word_heads (b ∷ x) later (word_of kind (b ∷ x) after fits is)

-- a `#` behind a token is that of a local name
pub name_of : (before : TokenKind) (minus : Bool) (ps : List Piece) (ws : List (List ℕ)) (end : List ℕ) → ArePiecesStanding minus ps end → ArePiecesAnew before ps ws → IsNameFront (text_of_pieces (anew ps ws) end)
name_of before minus [] [] end s r = λ t e. absurd (end_front minus end t s e)
name_of before minus [] (w ∷ ws) end s r = absurd r
name_of before minus (p ∷ ps) [] end s r = absurd r
name_of before minus (p ∷ ps) (w ∷ ws) end (s, ss) (r, rs) =
    name_at before p.kind p.gap p.text w (text_of_pieces ps end) (text_of_pieces (anew ps ws) end) s.longest.fits.some (fits_here p.kind p.text (text_of_pieces ps end) s.longest) (gap_front p minus (text_of_pieces ps end) s) r
