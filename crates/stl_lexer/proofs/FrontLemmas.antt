-- What a token can't be by the front of its text.
use Rattle.std.proofs.Common.{◌≡◌, ℕ, zero, suc, ◌+◌, ◌<◌, ◌≤◌, Bool, true, false, not, ◌||◌, ◌&&◌, List, [], ◌∷◌, length, take, drop, map, get_or, Option, None, Some, MatchOption, refl, sym, ◌∙◌, ap, inl, inr, arith}
use Rattle.std.specs.Prelude.{◌==◌, nat_lt}
use Rattle.std.specs.List.{list_all, list_any, prefix_len}
use Rattle.std.specs.Char.{is_ascii_digit, to_ascii_lowercase}
use Rattle.std.specs.Str.{str_to_ascii_lowercase}
use Rattle.std.proofs.lemmas.Slice.Eq.{bytes_eq-Decides}
use Rattle.std.proofs.lemmas.Bool.{and_parts, and_from, cases_Bool, eqb-true, or_cases, or_left, ltb-true, false≢true, false_from_ne_true, not-true}
use Rattle.std.proofs.lemmas.Bool.Decides.{nat_tests}
use Rattle.stl_lexer.specs.declared.kinds.TokenKind.TheVariants.{Word, Number, Quoted, Local, Characters, Based, NumberLiteral, TimeLiteral, Mark, SignWord, Attribute, Title}
use Rattle.stl_lexer.specs.declared.tables.Tail.{Tail}
use Rattle.stl_lexer.specs.declared.tables.Tail.TheVariants.{Nothing, Apart, Run, SignedRun, Line}
use Rattle.stl_lexer.specs.Bytes.{hash, double_quote, single_quote, open_brace, close_brace, is_word_byte, is_word_start}
use Rattle.stl_lexer.specs.Forms.{has_form, is_word, is_number, is_quoted, is_local_name, is_enclosed, is_entry, is_listed, begins_with, first_letter, sign_words, based_prefixes, long_prefixes, count_prefixes, time_prefixes, s5time_prefixes, title_words}
use Rattle.stl_lexer.specs.Marks.{marks, mark_text}
use Rattle.stl_lexer.specs.Longest.{FindsLongest, HasNoneOfForm, HasNoForm, IsLongestToken, IsLongestOfForm, better_of}
use Rattle.stl_lexer.proofs.EntryLemmas.{beginning_letter, entry_at}
use Rattle.stl_lexer.proofs.LongestLemmas.{either_longest}
use Rattle.stl_lexer.proofs.QuoteLemmas.{not_opened, not_quoted}
use Rattle.stl_lexer.proofs.RankLemmas.{best_none, best_more, best_of_all}
use Rattle.stl_lexer.proofs.RunLemmas.{found_cons, run_none}

-- the best of the kinds, one after another
pub best_found : (text : List ℕ) (word number quoted local characters based number_literal time_literal mark sign_word attribute title : Option ℕ)
    → FindsLongest (λ s after. is_word s) text word
    → FindsLongest (λ s after. is_number s) text number
    → FindsLongest (λ s after. is_quoted s) text quoted
    → FindsLongest (λ s after. is_local_name s) text local
    → FindsLongest (λ s after. is_enclosed single_quote single_quote true s) text characters
    → FindsLongest (is_listed Run based_prefixes) text based
    → FindsLongest (λ s after. is_listed SignedRun long_prefixes s after || is_listed Run count_prefixes s after) text number_literal
    → FindsLongest (λ s after. is_listed SignedRun time_prefixes s after || is_listed Run s5time_prefixes s after) text time_literal
    → FindsLongest (is_listed Nothing marks) text mark
    → FindsLongest (is_listed Apart sign_words) text sign_word
    → FindsLongest (λ s after. is_enclosed open_brace close_brace false s) text attribute
    → FindsLongest (is_listed Line title_words) text title
    → MatchOption (better_of (better_of (better_of (better_of (better_of (better_of (better_of (better_of (better_of (better_of (better_of (better_of None Word word) Number number) Quoted quoted) Local local) Characters characters) Based based) NumberLiteral number_literal) TimeLiteral time_literal) Mark mark) SignWord sign_word) Attribute attribute) Title title) (HasNoForm text) (λ found. IsLongestToken text found.kind found.length)
unfolding has_form
best_found text word number quoted local characters based number_literal time_literal mark sign_word attribute title h0 h1 h2 h3 h4 h5 h6 h7 h8 h9 h10 h11 =
    let b0 = best_more Word text None word (best_none text) h0 in
    let b1 = best_more Number text _ number b0 h1 in
    let b2 = best_more Quoted text _ quoted b1 h2 in
    let b3 = best_more Local text _ local b2 h3 in
    let b4 = best_more Characters text _ characters b3 h4 in
    let b5 = best_more Based text _ based b4 h5 in
    let b6 = best_more NumberLiteral text _ number_literal b5 h6 in
    let b7 = best_more TimeLiteral text _ time_literal b6 h7 in
    let b8 = best_more Mark text _ mark b7 h8 in
    let b9 = best_more SignWord text _ sign_word b8 h9 in
    let b10 = best_more Attribute text _ attribute b9 h10 in
    let b11 = best_more Title text _ title b10 h11 in
    best_of_all text _ b11

one_add : (n : ℕ) → 1 + n ≡ suc n
one_add n = omega arith

-- ---- entries of tables

word_lower : (b : ℕ) → is_word_byte b ≡ is_word_byte (to_ascii_lowercase b)
unfolding is_word_byte is_word_start
word_lower b = grind (arith, nat_tests)

digit_lower : (b : ℕ) → is_ascii_digit b ≡ is_ascii_digit (to_ascii_lowercase b)
digit_lower b = grind (arith, nat_tests)

same_word_byte : (c b : ℕ) → to_ascii_lowercase c ≡ to_ascii_lowercase b → is_word_byte c ≡ is_word_byte b
same_word_byte c b e = word_lower c ∙ ap is_word_byte e ∙ sym (word_lower b)

listed_in : (tail : Tail) (test : List ℕ → Bool) (table : List (List ℕ)) (text : List ℕ) (n : ℕ) → ((entry : List ℕ) → test entry ≡ true → begins_with entry text ≡ true → ⊥) → list_all test table ≡ true → 0 < n → n ≤ length text → list_any (λ entry. is_entry tail entry (take n text) (drop n text)) table ≡ true → ⊥
listed_in tail test [] text n never all some within e = false≢true e
listed_in tail test (entry ∷ table) text n never all some within e =
    let parts = and_parts (test entry) (list_all test table) all in
    elim (or_cases (is_entry tail entry (take n text) (drop n text)) (list_any (λ entry. is_entry tail entry (take n text) (drop n text)) table) e) [
      | inl here ↦ never entry parts.0 (entry_at tail entry text n (record { some = some; within = within; fits = here })).1
      | inr later ↦ listed_in tail test table text n never parts.1 some within later
    ]

-- a table lists nothing where its entries pass a test, and the text begins with no entry that does
pub none_listed : (tail : Tail) (test : List ℕ → Bool) (table : List (List ℕ)) (text : List ℕ) → ((entry : List ℕ) → test entry ≡ true → begins_with entry text ≡ true → ⊥) → list_all test table ≡ true → HasNoneOfForm (is_listed tail table) text
unfolding is_listed
none_listed tail test table text never all n at = listed_in tail test table text n never all at.some at.within at.fits

-- an entry whose first letter isn't of this class
is_apart : (ℕ → Bool) → List ℕ → Bool
is_apart p entry = nat_lt 0 (length entry) && not (p (first_letter entry))

none_apart : (p : ℕ → Bool) (text : List ℕ) → p (first_letter text) ≡ true → (entry : List ℕ) → is_apart p entry ≡ true → begins_with entry text ≡ true → ⊥
unfolding is_apart
none_apart p text yes_ entry e begins =
    let parts = and_parts (nat_lt 0 (length entry)) (not (p (first_letter entry))) e in
    let same = beginning_letter entry text (ltb-true 0 (length entry) parts.0) begins in
    false≢true (sym (not-true (p (first_letter entry)) parts.1) ∙ ap p same ∙ yes_)

-- where an entry is word bytes and `#`, so is what begins with it
to_hash : (entry text : List ℕ) → map to_ascii_lowercase entry ≡ map to_ascii_lowercase (take (length entry) text) → get_or entry (prefix_len is_word_byte entry) 0 ≡ hash → first_letter (drop (prefix_len is_word_byte text) text) ≡ hash
unfolding first_letter
to_hash [] text e h = absurd (omega (arith, h))
to_hash (c ∷ entry) [] e h = absurd (omega (arith, ap length e))
to_hash (c ∷ entry) (b ∷ text) e h =
    let head : to_ascii_lowercase c ≡ to_ascii_lowercase b = ap (λ s. get_or s 0 0) e in
    let rest : map to_ascii_lowercase entry ≡ map to_ascii_lowercase (take (length entry) text) = ap (drop 1) e in
    elim (cases_Bool (is_word_byte c)) as (λ _. first_letter (drop (prefix_len is_word_byte (b ∷ text)) (b ∷ text)) ≡ hash) [
      | inl yes_ ↦
          let also : is_word_byte b ≡ true = sym (same_word_byte c b head) ∙ yes_ in
          rw (also, one_add) (to_hash entry text rest (rw (yes_, one_add) at h))
      | inr no_ ↦
          let here : c ≡ hash = rw no_ at h in
          let stops : is_word_byte b ≡ false = sym (same_word_byte c b head) ∙ no_ in
          rw stops (sym head ∙ ap to_ascii_lowercase here)
    ]

-- an entry of word bytes and `#`, or of another first byte
needs_hash : List ℕ → Bool
needs_hash entry = get_or entry (prefix_len is_word_byte entry) 0 == hash || is_apart is_word_byte entry

none_hash : (text : List ℕ) → is_word_byte (first_letter text) ≡ true → (first_letter (drop (prefix_len is_word_byte text) text) ≡ hash → ⊥) → (entry : List ℕ) → needs_hash entry ≡ true → begins_with entry text ≡ true → ⊥
unfolding needs_hash begins_with
none_hash text yes_ never entry e begins = elim (or_cases (get_or entry (prefix_len is_word_byte entry) 0 == hash) (is_apart is_word_byte entry) e) [
  | inl h ↦ never (to_hash entry text ((bytes_eq-Decides (str_to_ascii_lowercase entry) (str_to_ascii_lowercase (take (length entry) text))).0 begins) (eqb-true (get_or entry (prefix_len is_word_byte entry) 0) hash h))
  | inr apart ↦ none_apart is_word_byte text yes_ entry apart begins
]

-- ---- kinds of one first byte

none_local : (text : List ℕ) → (get_or text 0 0 ≡ hash → ⊥) → HasNoneOfForm (λ s after. is_local_name s) text
none_local text h zero at = absurd (omega (arith, at.some))
none_local [] h (suc n) at = absurd (omega (arith, at.within))
none_local (b ∷ s) h (suc n) at = h (eqb-true b hash (and_parts (b == hash) (is_word (take n s)) at.fits).0)

-- ---- a word

start_no_digit : (b : ℕ) → is_word_start b ≡ true → is_ascii_digit b ≡ false
unfolding is_word_start
start_no_digit b e = grind (arith, nat_tests)

-- a text that begins with a word
record IsWordFront (text : List ℕ) (n : ℕ) : Type 0 where
  start : is_word_start (get_or text 0 0) ≡ true
  letter : is_word_byte (first_letter text) ≡ true
  size : n ≡ prefix_len is_word_byte text

word_byte : (b : ℕ) → is_word_start b ≡ true → is_word_byte b ≡ true
unfolding is_word_byte
word_byte b e = or_left (is_word_start b) (is_ascii_digit b) e

word_front : (text : List ℕ) (n : ℕ) → IsLongestOfForm (λ s after. is_word s) text n → IsWordFront text n
unfolding first_letter
word_front [] n h = absurd (omega (arith, h.fits.some, h.fits.within))
word_front (b ∷ s) zero h = absurd (omega (arith, h.fits.some))
word_front (b ∷ s) (suc m) h =
    let start = (and_parts (is_word_start b) (list_all is_word_byte (take m s)) h.fits.fits).0 in
    let there = found_cons is_word_start is_word_byte b s start in
    let size : suc m ≡ suc (prefix_len is_word_byte s) = omega (arith, h.longest (suc (prefix_len is_word_byte s)) there.fits, there.longest (suc m) h.fits) in
    record {
      start = start;
      letter = sym (word_lower b) ∙ word_byte b start;
      size = rw (word_byte b start, one_add) size;
    }

-- where no `#` follows a word, the token is the word or a title
pub word_alone : (text : List ℕ) (n : ℕ) (title : Option ℕ) → IsLongestOfForm (λ s after. is_word s) text n → (first_letter (drop n text) ≡ hash → ⊥) → FindsLongest (is_listed Line title_words) text title → MatchOption (better_of (Some (record { kind = Word; length = n })) Title title) (HasNoForm text) (λ found. IsLongestToken text found.kind found.length)
unfolding is_word_start is_word_byte first_letter is_apart needs_hash sign_words based_prefixes long_prefixes count_prefixes time_prefixes s5time_prefixes marks mark_text
word_alone text n title word never h =
    let front = word_front text n word in
    let other : (b : ℕ) → is_word_start b ≡ false → get_or text 0 0 ≡ b → ⊥ = λ b e is. false≢true (sym e ∙ ap is_word_start (sym is) ∙ front.start) in
    let without : (entry : List ℕ) → needs_hash entry ≡ true → begins_with entry text ≡ true → ⊥ =
    none_hash text front.letter (λ e. never (ap (λ k. first_letter (drop k text)) front.size ∙ e)) in
    best_found text (Some n) None None None None None None None None None None title
    word
    (run_none is_ascii_digit is_ascii_digit text (λ _. start_no_digit (get_or text 0 0) front.start))
    (not_quoted text (not_opened double_quote double_quote true text (λ _. other double_quote refl)))
    (none_local text (other hash refl))
    (not_opened single_quote single_quote true text (λ _. other single_quote refl))
    (none_listed Run needs_hash based_prefixes text without refl)
    (either_longest (is_listed SignedRun long_prefixes) (is_listed Run count_prefixes) text None None (none_listed SignedRun needs_hash long_prefixes text without refl) (none_listed Run needs_hash count_prefixes text without refl))
    (either_longest (is_listed SignedRun time_prefixes) (is_listed Run s5time_prefixes) text None None (none_listed SignedRun needs_hash time_prefixes text without refl) (none_listed Run needs_hash s5time_prefixes text without refl))
    (none_listed Nothing needs_hash marks text without refl)
    (none_listed Apart needs_hash sign_words text without refl)
    (not_opened open_brace close_brace false text (λ _. other open_brace refl))
    h

-- ---- a number

number_first : (text : List ℕ) (n : ℕ) → IsLongestOfForm (λ s after. is_number s) text n → is_ascii_digit (get_or text 0 0) ≡ true
number_first [] n h = absurd (omega (arith, h.fits.some, h.fits.within))
number_first (b ∷ s) zero h = absurd (omega (arith, h.fits.some))
number_first (b ∷ s) (suc m) h = (and_parts (is_ascii_digit b) (list_all is_ascii_digit (take m s)) h.fits.fits).0

digit_letter : (text : List ℕ) → is_ascii_digit (get_or text 0 0) ≡ true → is_ascii_digit (first_letter text) ≡ true
unfolding first_letter
digit_letter [] e = e
digit_letter (b ∷ s) e = sym (digit_lower b) ∙ e

digit_no_start : (b : ℕ) → is_ascii_digit b ≡ true → is_word_start b ≡ false
unfolding is_word_start
digit_no_start b e = grind (arith, nat_tests)

-- where a number stands, the token is the number or a binary literal
pub number_alone : (text : List ℕ) (n : ℕ) (based : Option ℕ) → IsLongestOfForm (λ s after. is_number s) text n → FindsLongest (is_listed Run based_prefixes) text based → MatchOption (better_of (Some (record { kind = Number; length = n })) Based based) (HasNoForm text) (λ found. IsLongestToken text found.kind found.length)
unfolding first_letter is_apart sign_words long_prefixes count_prefixes time_prefixes s5time_prefixes title_words marks mark_text
number_alone text n based number h =
    let first = number_first text n number in
    let other : (b : ℕ) → is_ascii_digit b ≡ false → get_or text 0 0 ≡ b → ⊥ = λ b e is. false≢true (sym e ∙ ap is_ascii_digit (sym is) ∙ first) in
    let without : (entry : List ℕ) → is_apart is_ascii_digit entry ≡ true → begins_with entry text ≡ true → ⊥ = none_apart is_ascii_digit text (digit_letter text first) in
    best_found text None (Some n) None None None based None None None None None None
    (run_none is_word_start is_word_byte text (λ _. digit_no_start (get_or text 0 0) first))
    number
    (not_quoted text (not_opened double_quote double_quote true text (λ _. other double_quote refl)))
    (none_local text (other hash refl))
    (not_opened single_quote single_quote true text (λ _. other single_quote refl))
    h
    (either_longest (is_listed SignedRun long_prefixes) (is_listed Run count_prefixes) text None None (none_listed SignedRun (is_apart is_ascii_digit) long_prefixes text without refl) (none_listed Run (is_apart is_ascii_digit) count_prefixes text without refl))
    (either_longest (is_listed SignedRun time_prefixes) (is_listed Run s5time_prefixes) text None None (none_listed SignedRun (is_apart is_ascii_digit) time_prefixes text without refl) (none_listed Run (is_apart is_ascii_digit) s5time_prefixes text without refl))
    (none_listed Nothing (is_apart is_ascii_digit) marks text without refl)
    (none_listed Apart (is_apart is_ascii_digit) sign_words text without refl)
    (not_opened open_brace close_brace false text (λ _. other open_brace refl))
    (none_listed Line (is_apart is_ascii_digit) title_words text without refl)

-- ---- neither

no_start : (text : List ℕ) → HasNoneOfForm (λ s after. is_word s) text → is_word_start (get_or text 0 0) ≡ false
unfolding is_word_start
no_start [] none = refl
no_start (b ∷ s) none = false_from_ne_true (is_word_start b) (λ e. none 1 (record { some = omega arith; within = omega arith; fits = and_from (is_word_start b) true e refl }))

no_digit : (text : List ℕ) → HasNoneOfForm (λ s after. is_number s) text → is_ascii_digit (get_or text 0 0) ≡ false
no_digit [] none = refl
no_digit (b ∷ s) none = false_from_ne_true (is_ascii_digit b) (λ e. none 1 (record { some = omega arith; within = omega arith; fits = and_from (is_ascii_digit b) true e refl }))

letter_lower : (text : List ℕ) → first_letter text ≡ to_ascii_lowercase (get_or text 0 0)
unfolding first_letter
letter_lower [] = refl
letter_lower (b ∷ s) = refl

is_other : ℕ → Bool
is_other b = not (is_word_byte b)

other_letter : (text : List ℕ) → is_word_start (get_or text 0 0) ≡ false → is_ascii_digit (get_or text 0 0) ≡ false → is_other (first_letter text) ≡ true
unfolding is_other is_word_byte
other_letter text start digit =
    let here : is_word_byte (get_or text 0 0) ≡ false = rw (start, digit) refl in
    rw (letter_lower text, sym (word_lower (get_or text 0 0)), start, digit) refl

-- the kinds that begin with neither a word nor a number
sign_best : (text : List ℕ) (quoted local characters mark sign_word attribute : Option ℕ)
    → HasNoneOfForm (λ s after. is_word s) text
    → HasNoneOfForm (λ s after. is_number s) text
    → FindsLongest (λ s after. is_quoted s) text quoted
    → FindsLongest (λ s after. is_local_name s) text local
    → FindsLongest (λ s after. is_enclosed single_quote single_quote true s) text characters
    → FindsLongest (is_listed Nothing marks) text mark
    → FindsLongest (is_listed Apart sign_words) text sign_word
    → FindsLongest (λ s after. is_enclosed open_brace close_brace false s) text attribute
    → MatchOption (better_of (better_of (better_of (better_of (better_of (better_of None Quoted quoted) Local local) Characters characters) Mark mark) SignWord sign_word) Attribute attribute) (HasNoForm text) (λ found. IsLongestToken text found.kind found.length)
unfolding first_letter is_apart is_other is_word_start is_word_byte based_prefixes long_prefixes count_prefixes time_prefixes s5time_prefixes title_words
sign_best text quoted local characters mark sign_word attribute word number h2 h3 h4 h8 h9 h10 =
    let without : (entry : List ℕ) → is_apart is_other entry ≡ true → begins_with entry text ≡ true → ⊥ = none_apart is_other text (other_letter text (no_start text word) (no_digit text number)) in
    best_found text None None quoted local characters None None None mark sign_word attribute None
    word
    number
    h2
    h3
    h4
    (none_listed Run (is_apart is_other) based_prefixes text without refl)
    (either_longest (is_listed SignedRun long_prefixes) (is_listed Run count_prefixes) text None None (none_listed SignedRun (is_apart is_other) long_prefixes text without refl) (none_listed Run (is_apart is_other) count_prefixes text without refl))
    (either_longest (is_listed SignedRun time_prefixes) (is_listed Run s5time_prefixes) text None None (none_listed SignedRun (is_apart is_other) time_prefixes text without refl) (none_listed Run (is_apart is_other) s5time_prefixes text without refl))
    h8
    h9
    h10
    (none_listed Line (is_apart is_other) title_words text without refl)

-- no mark begins with this byte
none_mark : (b : ℕ) (text : List ℕ) → get_or text 0 0 ≡ b → (to_ascii_lowercase b == b) ≡ true → list_all (is_apart (λ c. c == b)) marks ≡ true → HasNoneOfForm (is_listed Nothing marks) text
none_mark b text first same all = none_listed Nothing (is_apart (λ c. c == b)) marks text (none_apart (λ c. c == b) text (ap (λ c. c == b) (letter_lower text ∙ ap to_ascii_lowercase first) ∙ same)) all

none_sign_word : (b : ℕ) (text : List ℕ) → get_or text 0 0 ≡ b → (to_ascii_lowercase b == b) ≡ true → list_all (is_apart (λ c. c == b)) sign_words ≡ true → HasNoneOfForm (is_listed Apart sign_words) text
none_sign_word b text first same all = none_listed Apart (is_apart (λ c. c == b)) sign_words text (none_apart (λ c. c == b) text (ap (λ c. c == b) (letter_lower text ∙ ap to_ascii_lowercase first) ∙ same)) all

none_quoted : (text : List ℕ) → (get_or text 0 0 ≡ double_quote → ⊥) → HasNoneOfForm (λ s after. is_quoted s) text
none_quoted text h = not_quoted text (not_opened double_quote double_quote true text (λ _. h))

none_characters : (text : List ℕ) → (get_or text 0 0 ≡ single_quote → ⊥) → HasNoneOfForm (λ s after. is_enclosed single_quote single_quote true s) text
none_characters text h = not_opened single_quote single_quote true text (λ _. h)

none_attribute : (text : List ℕ) → (get_or text 0 0 ≡ open_brace → ⊥) → HasNoneOfForm (λ s after. is_enclosed open_brace close_brace false s) text
none_attribute text h = not_opened open_brace close_brace false text (λ _. h)

-- what begins with its own byte is of one kind
pub quoted_alone : (text : List ℕ) (found : Option ℕ) → HasNoneOfForm (λ s after. is_word s) text → HasNoneOfForm (λ s after. is_number s) text → get_or text 0 0 ≡ double_quote → FindsLongest (λ s after. is_quoted s) text found → MatchOption (better_of None Quoted found) (HasNoForm text) (λ found. IsLongestToken text found.kind found.length)
unfolding first_letter is_apart marks mark_text sign_words
quoted_alone text found word number first h = sign_best text found None None None None None word number h
    (none_local text (λ e. absurd (omega (arith, first, e))))
    (none_characters text (λ e. absurd (omega (arith, first, e))))
    (none_mark double_quote text first refl refl)
    (none_sign_word double_quote text first refl refl)
    (none_attribute text (λ e. absurd (omega (arith, first, e))))

pub local_alone : (text : List ℕ) (found : Option ℕ) → HasNoneOfForm (λ s after. is_word s) text → HasNoneOfForm (λ s after. is_number s) text → get_or text 0 0 ≡ hash → FindsLongest (λ s after. is_local_name s) text found → MatchOption (better_of None Local found) (HasNoForm text) (λ found. IsLongestToken text found.kind found.length)
unfolding first_letter is_apart marks mark_text sign_words
local_alone text found word number first h = sign_best text None found None None None None word number
    (none_quoted text (λ e. absurd (omega (arith, first, e))))
    h
    (none_characters text (λ e. absurd (omega (arith, first, e))))
    (none_mark hash text first refl refl)
    (none_sign_word hash text first refl refl)
    (none_attribute text (λ e. absurd (omega (arith, first, e))))

pub characters_alone : (text : List ℕ) (found : Option ℕ) → HasNoneOfForm (λ s after. is_word s) text → HasNoneOfForm (λ s after. is_number s) text → get_or text 0 0 ≡ single_quote → FindsLongest (λ s after. is_enclosed single_quote single_quote true s) text found → MatchOption (better_of None Characters found) (HasNoForm text) (λ found. IsLongestToken text found.kind found.length)
unfolding first_letter is_apart marks mark_text sign_words
characters_alone text found word number first h = sign_best text None None found None None None word number
    (none_quoted text (λ e. absurd (omega (arith, first, e))))
    (none_local text (λ e. absurd (omega (arith, first, e))))
    h
    (none_mark single_quote text first refl refl)
    (none_sign_word single_quote text first refl refl)
    (none_attribute text (λ e. absurd (omega (arith, first, e))))

pub attribute_alone : (text : List ℕ) (found : Option ℕ) → HasNoneOfForm (λ s after. is_word s) text → HasNoneOfForm (λ s after. is_number s) text → get_or text 0 0 ≡ open_brace → FindsLongest (λ s after. is_enclosed open_brace close_brace false s) text found → MatchOption (better_of None Attribute found) (HasNoForm text) (λ found. IsLongestToken text found.kind found.length)
unfolding first_letter is_apart marks mark_text sign_words
attribute_alone text found word number first h = sign_best text None None None None None found word number
    (none_quoted text (λ e. absurd (omega (arith, first, e))))
    (none_local text (λ e. absurd (omega (arith, first, e))))
    (none_characters text (λ e. absurd (omega (arith, first, e))))
    (none_mark open_brace text first refl refl)
    (none_sign_word open_brace text first refl refl)
    h

-- another byte is only asked for marks and sign words
pub mark_best : (text : List ℕ) (mark sign_word : Option ℕ) → HasNoneOfForm (λ s after. is_word s) text → HasNoneOfForm (λ s after. is_number s) text → (get_or text 0 0 ≡ double_quote → ⊥) → (get_or text 0 0 ≡ hash → ⊥) → (get_or text 0 0 ≡ single_quote → ⊥) → (get_or text 0 0 ≡ open_brace → ⊥) → FindsLongest (is_listed Nothing marks) text mark → FindsLongest (is_listed Apart sign_words) text sign_word → MatchOption (better_of (better_of None Mark mark) SignWord sign_word) (HasNoForm text) (λ found. IsLongestToken text found.kind found.length)
mark_best text mark sign_word word number quote local single brace h8 h9 = sign_best text None None None mark sign_word None word number (none_quoted text quote) (none_local text local) (none_characters text single) h8 h9 (none_attribute text brace)
