-- Words: each is the longest token before what stops it, where it isn't the one that begins a title.
use Rattle.std.proofs.Common.{◌≡◌, ℕ, Bool, true, false, not, ◌&&◌, ◌||◌, List, [], ◌∷◌, ◌++◌, length, take, drop, None, refl, sym, ◌∙◌, ap, arith, inl, inr}
use Rattle.std.specs.Prelude.{◌==◌, codes}
use Rattle.std.specs.List.{list_all}
use Rattle.std.specs.Char.{to_ascii_lowercase}
use Rattle.std.specs.Str.{str_eq_ignore_ascii_case}
use Rattle.std.proofs.lemmas.Bool.{and_cases, and_left, and_parts, and_right, and_from, false≢true, false_from_ne_true, true_from_ne_false, not-true}
use Rattle.std.proofs.lemmas.Bool.Decides.{nat_tests}
use Rattle.std.proofs.lemmas.List.{drop-append-le, take-append-drop}
use Rattle.std.proofs.Math.Seq.{drop-append_seam}
use Rattle.stl_lexer.specs.declared.kinds.TokenKind.TheVariants.{Title, Word}
use Rattle.stl_lexer.specs.Bytes.{hash, is_line_byte, is_word_byte, is_word_start}
use Rattle.stl_lexer.specs.Forms as forms
use Rattle.stl_lexer.specs.Forms.{begins_with, first_letter, continues_word, has_form, is_word, title_words}
use Rattle.stl_lexer.specs.Longest.{HasNoneOfForm, IsLongestToken, IsLongestOfForm}
use Rattle.stl_lexer.specs.Pieces.{stops_token}
use Rattle.stl_lexer.proofs.FrontLemmas.{word_alone}
use Rattle.stl_lexer.proofs.RunLemmas.{found_cons}
use Rattle.print_laws.specs.Standing.{IsNonTitleName}
use Rattle.print_laws.proofs.lexing.Fronts.{begins_fronts, fronts, fronts_take, fronts_whole, fronts_within, other_front}
use Rattle.print_laws.proofs.lexing.Hashed.{stops_run}
use Rattle.print_laws.proofs.lexing.Numerals.{passes_to}

-- an entry of word bytes that a word doesn't begin with isn't there where the word ends
no_entry : (entry w after : List ℕ) → list_all is_word_byte entry ≡ true → stops_token after ≡ true → fronts entry w ≡ false → fronts entry (w ++ after) ≡ false
no_entry [] w after e stop f = absurd (false≢true (sym f))
no_entry (c ∷ entry) [] [] e stop f = refl
no_entry (c ∷ entry) [] (b ∷ after) e stop f =
    let no_ = not-true (is_word_byte b) (and_parts (not (is_word_byte b)) (not (b == hash)) stop).0 in
    false_from_ne_true (fronts (c ∷ entry) (b ∷ after)) (λ h. other_front (c ∷ entry) b after no_ (and_parts (is_word_byte c) (list_all is_word_byte entry) e).0 h)
no_entry (c ∷ entry) (b ∷ w) after e stop f = elim (and_cases (to_ascii_lowercase c == to_ascii_lowercase b) (fronts entry w) f) [
  | inl other ↦ and_left (to_ascii_lowercase c == to_ascii_lowercase b) (fronts entry (w ++ after)) other
  | inr more ↦ and_right (to_ascii_lowercase c == to_ascii_lowercase b) (fronts entry (w ++ after)) (no_entry entry w after (and_parts (is_word_byte c) (list_all is_word_byte entry) e).1 stop more)
]

-- where it begins the word and the text behind that, it begins the word
entry_in : (entry w after : List ℕ) → list_all is_word_byte entry ≡ true → stops_token after ≡ true → fronts entry (w ++ after) ≡ true → fronts entry w ≡ true
entry_in entry w after e stop f = true_from_ne_false (fronts entry w) (λ no_. false≢true (sym (no_entry entry w after e stop no_) ∙ f))

-- another word than TITLE that begins with it goes on
goes_behind : (w after : List ℕ) → list_all is_word_byte w ≡ true → str_eq_ignore_ascii_case (codes "TITLE") w ≡ false → fronts (codes "TITLE") w ≡ true → continues_word (drop 5 (w ++ after)) ≡ true
unfolding continues_word
goes_behind [] after e other f = absurd (false≢true f)
goes_behind (a ∷ []) after e other f = absurd (omega (arith, fronts_within (codes "TITLE") (a ∷ []) f))
goes_behind (a ∷ b ∷ []) after e other f = absurd (omega (arith, fronts_within (codes "TITLE") (a ∷ b ∷ []) f))
goes_behind (a ∷ b ∷ c ∷ []) after e other f = absurd (omega (arith, fronts_within (codes "TITLE") (a ∷ b ∷ c ∷ []) f))
goes_behind (a ∷ b ∷ c ∷ d ∷ []) after e other f = absurd (omega (arith, fronts_within (codes "TITLE") (a ∷ b ∷ c ∷ d ∷ []) f))
goes_behind (a ∷ b ∷ c ∷ d ∷ f ∷ []) after e other g = absurd (false≢true (sym other ∙ fronts_whole (codes "TITLE") (a ∷ b ∷ c ∷ d ∷ f ∷ []) g refl))
goes_behind (a ∷ b ∷ c ∷ d ∷ f ∷ x ∷ w) after e other g = sixth a b c d f x w e
  where
    sixth : (a b c d f x : ℕ) (w : List ℕ) → list_all is_word_byte (a ∷ b ∷ c ∷ d ∷ f ∷ x ∷ w) ≡ true → is_word_byte x ≡ true
    sixth a b c d f x w e =
        let one = (and_parts (is_word_byte a) _ e).1 in
        let two = (and_parts (is_word_byte b) _ one).1 in
        let three = (and_parts (is_word_byte c) _ two).1 in
        let four = (and_parts (is_word_byte d) _ three).1 in
        let five = (and_parts (is_word_byte f) _ four).1 in
        (and_parts (is_word_byte x) (list_all is_word_byte w) five).0

-- no title begins with another word
no_title : (w after : List ℕ) → list_all is_word_byte w ≡ true → stops_token after ≡ true → str_eq_ignore_ascii_case (codes "TITLE") w ≡ false → HasNoneOfForm (has_form Title) (w ++ after)
unfolding has_form forms.is_listed forms.is_entry forms.is_tail title_words is_word_byte is_word_start
no_title w after e stop other m at =
    let text = w ++ after in
    let title = codes "TITLE" in
    let behind = drop 5 (take m text) in
    let both = only (begins_with title (take m text) && (list_all is_line_byte behind && not (continues_word (behind ++ drop m text)))) at.fits in
    let parts = and_parts (begins_with title (take m text)) (list_all is_line_byte behind && not (continues_word (behind ++ drop m text))) both in
    let ends = (and_parts (list_all is_line_byte behind) (not (continues_word (behind ++ drop m text))) parts.1).1 in
    let here : fronts title (take m text) ≡ true = sym (begins_fronts title (take m text)) ∙ parts.0 in
    let whole : behind ++ drop m text ≡ drop 5 text =
    sym (drop-append-le 5 (take m text) (drop m text) (fronts_within title (take m text) here)) ∙ ap (drop 5) (take-append-drop m text) in
    let goes = goes_behind w after e other (entry_in title w after refl stop (fronts_take title m text here)) in
    false≢true (sym (not-true (continues_word (behind ++ drop m text)) ends) ∙ ap continues_word whole ∙ goes)
  where
    only : (b : Bool) → (b || false) ≡ true → b ≡ true
    only true e = refl
    only false e = e

word_found : (w after : List ℕ) → is_word w ≡ true → stops_token after ≡ true → IsLongestOfForm (λ s rest. is_word s) (w ++ after) (length w)
word_found [] after e stop = absurd (false≢true e)
word_found (b ∷ w) after e stop =
    let parts = and_parts (is_word_start b) (list_all is_word_byte w) e in
    rw (sym (passes_to is_word_byte w after parts.1 (stops_run after stop))) (found_cons is_word_start is_word_byte b (w ++ after) parts.0)

no_hash_behind : (after : List ℕ) → stops_token after ≡ true → first_letter after ≡ hash → ⊥
unfolding first_letter
no_hash_behind [] e h = absurd (omega (arith, h))
no_hash_behind (b ∷ s) e h = differs b (and_parts (not (is_word_byte b)) (not (b == hash)) e).1 h where
  differs : (b : ℕ) → not (b == hash) ≡ true → to_ascii_lowercase b ≡ hash → ⊥
  differs b e h = grind (arith, nat_tests)

start_byte : (b : ℕ) → is_word_start b ≡ true → is_word_byte b ≡ true
unfolding is_word_byte is_word_start
start_byte b e = grind (arith, nat_tests)

word_bytes : (w : List ℕ) → is_word w ≡ true → list_all is_word_byte w ≡ true
word_bytes [] e = absurd (false≢true e)
word_bytes (b ∷ w) e =
    let parts = and_parts (is_word_start b) (list_all is_word_byte w) e in
    and_from (is_word_byte b) (list_all is_word_byte w) (start_byte b parts.0) parts.1

-- a word that isn't TITLE, before what stops
pub word_longest : (w after : List ℕ) → IsNonTitleName w → stops_token after ≡ true → IsLongestToken (w ++ after) Word (length w)
unfolding has_form
word_longest w after (is, other) stop =
    word_alone (w ++ after) (length w) None (word_found w after is stop)
    (λ h. no_hash_behind after stop (sym (ap first_letter (drop-append_seam w after)) ∙ h))
    (no_title w after (word_bytes w is) stop other)
