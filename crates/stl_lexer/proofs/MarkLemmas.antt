-- A mark by the first bytes of a text.
use Rattle.std.proofs.Common.{◌≡◌, ℕ, ◌<◌, Bool, true, false, List, [], ◌∷◌, length, take, get_or, Option, None, Some, refl, sym, ◌∙◌, ap, subst, arith}
use Rattle.std.specs.Prelude.{◌==◌}
use Rattle.std.specs.Char.{to_ascii_lowercase}
use Rattle.std.specs.Str.{str_to_ascii_lowercase}
use Rattle.std.proofs.lemmas.Slice.Eq.{bytes_eq-Decides}
use Rattle.std.proofs.lemmas.Bool.{eqb-true, false≢true, false_from_ne_true}
use Rattle.std.proofs.lemmas.Bool.Decides.{nat_tests}
use Rattle.stl_lexer.specs.declared.tables.Tail.TheVariants.{Nothing, Apart}
use Rattle.stl_lexer.specs.Forms.{begins_with, entries_from, first_letter, is_entry, is_listed, sign_words}
use Rattle.stl_lexer.specs.Marks.{marks, mark_text}
use Rattle.stl_lexer.specs.Longest.{FindsLongest, HasNoneOfForm, IsLongestOfForm, longer_of}
use Rattle.stl_lexer.proofs.EntryLemmas.{entry_found, found_from, listed_more, listed_none, marks_some, no_entry, words_some}
use Rattle.stl_lexer.proofs.FrontLemmas.{none_listed}
use Rattle.stl_lexer.proofs.TailLemmas.{tail_nothing}

-- a table of one entry, or of two
one_listed : (entry text : List ℕ) (found : Option ℕ) → FindsLongest (is_entry Nothing entry) text found → FindsLongest (is_listed Nothing (entry ∷ [])) text found
one_listed entry text found h = listed_more Nothing (entry ∷ []) 0 text None found (omega arith) (listed_none Nothing text) h

two_listed : (a b text : List ℕ) (m n : Option ℕ) → FindsLongest (is_entry Nothing a) text m → FindsLongest (is_entry Nothing b) text n → FindsLongest (is_listed Nothing (a ∷ b ∷ [])) text (longer_of m n)
two_listed a b text m n h g = listed_more Nothing (a ∷ b ∷ []) 1 text m n (omega arith) (one_listed a text m h) g

lower_twice : (b : ℕ) → to_ascii_lowercase (to_ascii_lowercase b) ≡ to_ascii_lowercase b
lower_twice b = grind (arith, nat_tests)

-- a text begins with its first letter
letter_found : (text : List ℕ) → 0 < length text → IsLongestOfForm (is_entry Nothing (first_letter text ∷ [])) text 1
unfolding begins_with first_letter
letter_found [] h = absurd (omega arith)
letter_found (b ∷ s) h =
    entry_found Nothing (to_ascii_lowercase b ∷ []) (b ∷ s) 0 (omega arith)
    ((bytes_eq-Decides (str_to_ascii_lowercase (to_ascii_lowercase b ∷ [])) (str_to_ascii_lowercase (b ∷ []))).1 (λ i. lower_twice b i ∷ []))
    (tail_nothing s)

-- where the first letter is the only mark that begins with it, it is the mark
pub lone_mark : (text : List ℕ) (letter : ℕ) → letter ≡ first_letter text → entries_from letter marks ≡ (letter ∷ []) ∷ [] → FindsLongest (is_listed Nothing marks) text (Some 1)
unfolding first_letter entries_from marks mark_text
lone_mark [] letter same lone = absurd (omega (arith, ap length (subst (λ b. entries_from b marks ≡ (b ∷ []) ∷ []) same lone)))
lone_mark (b ∷ s) letter same lone =
    found_from Nothing marks ((first_letter (b ∷ s) ∷ []) ∷ []) (b ∷ s) (Some 1) marks_some
    (sym (subst (λ c. entries_from c marks ≡ (c ∷ []) ∷ []) same lone))
    (one_listed (first_letter (b ∷ s) ∷ []) (b ∷ s) (Some 1) (letter_found (b ∷ s) (omega arith)))

-- the dot, which opens two marks
abbrev dot : ℕ
dot = 46

lower_dot : (c : ℕ) → dot ≡ to_ascii_lowercase c → c ≡ dot
lower_dot c e = grind (arith, nat_tests)

first_dot : (s : List ℕ) → FindsLongest (is_entry Nothing (dot ∷ [])) (dot ∷ s) (Some 1)
unfolding first_letter
first_dot s = letter_found (dot ∷ s) (omega arith)

-- one dot or two are the longest of the two marks
of_dots : (s : List ℕ) (second : Option ℕ) → FindsLongest (is_entry Nothing (dot ∷ dot ∷ [])) (dot ∷ s) second → FindsLongest (is_listed Nothing marks) (dot ∷ s) (longer_of (Some 1) second)
unfolding first_letter entries_from marks mark_text
of_dots s second h = found_from Nothing marks ((dot ∷ []) ∷ (dot ∷ dot ∷ []) ∷ []) (dot ∷ s) (longer_of (Some 1) second) marks_some refl (two_listed (dot ∷ []) (dot ∷ dot ∷ []) (dot ∷ s) (Some 1) second (first_dot s) h)

dot_first : (b : ℕ) (s : List ℕ) → first_letter (b ∷ s) ≡ dot → b ≡ dot
unfolding first_letter
dot_first b s e = lower_dot b (sym e)

pub two_dots : (text : List ℕ) → first_letter text ≡ dot → get_or text 1 0 ≡ dot → FindsLongest (is_listed Nothing marks) text (Some 2)
unfolding begins_with first_letter
two_dots [] first second = absurd (omega (arith, first))
two_dots (b ∷ []) first second = absurd (omega (arith, second))
two_dots (b ∷ c ∷ s) first second =
    rw (dot_first b (c ∷ s) first, second) (of_dots (dot ∷ s) (Some 2) (entry_found Nothing (dot ∷ dot ∷ []) (dot ∷ dot ∷ s) 0 (omega arith) refl (tail_nothing s)))

pub one_dot : (text : List ℕ) → first_letter text ≡ dot → (get_or text 1 0 ≡ dot → ⊥) → FindsLongest (is_listed Nothing marks) text (Some 1)
unfolding begins_with first_letter
one_dot [] first other = absurd (omega (arith, first))
one_dot (b ∷ []) first other = rw (dot_first b [] first) (of_dots [] None (no_entry Nothing (dot ∷ dot ∷ []) (dot ∷ []) refl))
one_dot (b ∷ c ∷ s) first other =
    let no : begins_with (dot ∷ dot ∷ []) (dot ∷ c ∷ s) ≡ false = false_from_ne_true (begins_with (dot ∷ dot ∷ []) (dot ∷ c ∷ s)) (λ e.
    other (lower_dot c (ap (λ l. get_or l 1 0) ((bytes_eq-Decides (str_to_ascii_lowercase (dot ∷ dot ∷ [])) (str_to_ascii_lowercase (dot ∷ c ∷ []))).0 e)))) in
    rw (dot_first b (c ∷ s) first) (of_dots (c ∷ s) None (no_entry Nothing (dot ∷ dot ∷ []) (dot ∷ c ∷ s) no))

-- the sign `=`, whose sign words all go on with another one
abbrev equals : ℕ
equals = 61

lower_equals : (c : ℕ) → equals ≡ to_ascii_lowercase c → c ≡ equals
lower_equals c e = grind (arith, nat_tests)

goes_on_equals : List ℕ → Bool
goes_on_equals entry = get_or entry 1 0 == equals

second_begun : (entry text : List ℕ) → goes_on_equals entry ≡ true → begins_with entry text ≡ true → get_or text 1 0 ≡ equals
unfolding goes_on_equals begins_with
second_begun [] text e begins = absurd (false≢true e)
second_begun (c ∷ []) text e begins = absurd (false≢true e)
second_begun (c ∷ d ∷ entry) text e begins =
    let low = (bytes_eq-Decides (str_to_ascii_lowercase (c ∷ d ∷ entry)) (str_to_ascii_lowercase (take (length (c ∷ d ∷ entry)) text))).0 begins in
    second_same d entry c text (eqb-true d equals e) low
  where
    second_same : (d : ℕ) (entry : List ℕ) (c : ℕ) (text : List ℕ) → d ≡ equals → str_to_ascii_lowercase (c ∷ d ∷ entry) ≡ str_to_ascii_lowercase (take (length (c ∷ d ∷ entry)) text) → get_or text 1 0 ≡ equals
    second_same d entry c [] is low = absurd (omega (arith, ap length low))
    second_same d entry c (b ∷ []) is low = absurd (omega (arith, ap length low))
    second_same d entry c (b ∷ f ∷ s) is low = lower_equals f (ap to_ascii_lowercase (sym is) ∙ ap (λ l. get_or l 1 0) low)

-- one `=` opens no sign word
pub one_equals : (text : List ℕ) → first_letter text ≡ equals → (get_or text 1 0 ≡ equals → ⊥) → HasNoneOfForm (is_listed Apart sign_words) text
unfolding first_letter entries_from sign_words goes_on_equals
one_equals text first other =
    found_from Apart sign_words (entries_from equals sign_words) text None words_some (ap (λ b. entries_from b sign_words) (sym first))
    (none_listed Apart goes_on_equals (entries_from equals sign_words) text (λ entry e begins. other (second_begun entry text e begins)) refl)
