-- A table's entry at the front of a text.
use Rattle.std.proofs.Common.{◌≡◌, ℕ, ◌+◌, ◌-◌, ◌<◌, ◌≤◌, true, false, ◌||◌, List, [], ◌∷◌, length, take, drop, get_or, Option, None, Some, inl, inr, refl, sym, ◌∙◌, ap, subst, arith}
use Rattle.std.specs.Prelude.{◌==◌, nat_lt}
use Rattle.std.specs.List.{filter, list_all, list_any}
use Rattle.std.specs.Str.{str_eq_ignore_ascii_case, str_to_ascii_lowercase}
use Rattle.std.specs.Char.{to_ascii_lowercase}
use Rattle.std.proofs.lemmas.Slice.Eq.{bytes_eq-Decides}
use Rattle.std.proofs.lemmas.Bool.{and_parts, and_from, cases_Bool, eq-eqb, ltb-true, or_cases, or_left, or_right, false≢true, false_from_ne_true}
use Rattle.std.proofs.lemmas.List.{length-map, length-take, length-drop, take-take, drop-take, drop-drop, take_all}
use Rattle.std.proofs.lemmas.List.Folds.{list_any_more}
use Rattle.std.proofs.lemmas.List.Sums.{AllPass-from_list_all}
use Rattle.stl_lexer.specs.declared.tables.Tail.{Tail}
use Rattle.stl_lexer.specs.Forms.{begins_with, entries_from, first_letter, is_tail, is_entry, is_listed, opens_entry, sign_words}
use Rattle.stl_lexer.specs.Marks.{mark_text, marks}
use Rattle.stl_lexer.specs.Longest.{IsFormAt, IsLongestOfForm, HasNoneOfForm, FindsLongest, IsTailAt, IsLongestTail, longer_of}
use Rattle.stl_lexer.proofs.LongestLemmas.{same_form, either_longest}

same_length : (a b : List ℕ) → str_eq_ignore_ascii_case a b ≡ true → length a ≡ length b
same_length a b e =
    let low = (bytes_eq-Decides (str_to_ascii_lowercase a) (str_to_ascii_lowercase b)).0 e in
    sym (length-map a to_ascii_lowercase) ∙ ap length low ∙ length-map b to_ascii_lowercase

-- a text is as long as an entry that it begins with
pub entry_within : (entry text : List ℕ) → begins_with entry text ≡ true → length entry ≤ length text
unfolding begins_with
entry_within entry text e = omega (arith, same_length entry (take (length entry) text) e, length-take (length entry) text)

pub beginning_letter : (entry text : List ℕ) → 0 < length entry → begins_with entry text ≡ true → first_letter entry ≡ first_letter text
unfolding begins_with first_letter
beginning_letter [] text some e = absurd (omega arith)
beginning_letter (c ∷ entry) [] some e = absurd (omega (arith, same_length (c ∷ entry) [] e))
beginning_letter (c ∷ entry) (b ∷ text) some e =
    ap (λ s. get_or s 0 0) ((bytes_eq-Decides (str_to_ascii_lowercase (c ∷ entry)) (str_to_ascii_lowercase (b ∷ take (length entry) text))).0 e)

-- a text begins with no entry of another letter
pub no_beginning : (entry text : List ℕ) → 0 < length entry → (first_letter entry ≡ first_letter text → ⊥) → begins_with entry text ≡ false
no_beginning entry text some h = false_from_ne_true (begins_with entry text) (λ e. h (beginning_letter entry text some e))

pub too_short : (entry text : List ℕ) → length text < length entry → begins_with entry text ≡ false
too_short entry text h = false_from_ne_true (begins_with entry text) (λ e. absurd (omega (arith, entry_within entry text e)))

-- the front of a text begins with an entry where the text does
begins_front : (entry text : List ℕ) (m : ℕ) → length entry ≤ m → begins_with entry (take m text) ≡ begins_with entry text
unfolding begins_with
begins_front entry text m h = ap (str_eq_ignore_ascii_case entry) (take-take (length entry) m text h)

-- an entry with its tail: the text begins with the entry, and the tail stands behind it
tail_at : (tail : Tail) (entry text : List ℕ) (n : ℕ) → length entry + n ≤ length text → is_tail tail (drop (length entry) (take (length entry + n) text)) (drop (length entry + n) text) ≡ is_tail tail (take n (drop (length entry) text)) (drop n (drop (length entry) text))
tail_at tail entry text n h = λ i. is_tail tail (drop-take (length entry) n text i) (sym (drop-drop n (length entry) text) i)

pub entry_at : (tail : Tail) (entry text : List ℕ) (m : ℕ) → IsFormAt (is_entry tail entry) text m → (length entry ≤ m) × (begins_with entry text ≡ true) × IsTailAt tail (drop (length entry) text) (m - length entry)
unfolding is_entry
entry_at tail entry text m at =
    let parts = and_parts (begins_with entry (take m text)) (is_tail tail (drop (length entry) (take m text)) (drop m text)) at.fits in
    let short : length entry ≤ m = omega (arith, entry_within entry (take m text) parts.0, length-take m text) in
    let whole : m ≡ length entry + (m - length entry) = omega arith in
    let there = subst (λ k. is_tail tail (drop (length entry) (take k text)) (drop k text) ≡ true) whole parts.1 in (
      short,
      sym (begins_front entry text m short) ∙ parts.0,
      record {
        within = omega (arith, at.within, length-drop (length entry) text);
        fits = sym (tail_at tail entry text (m - length entry) (omega (arith, at.within))) ∙ there;
      },
    )

pub entry_found : (tail : Tail) (entry text : List ℕ) (n : ℕ) → 0 < length entry → begins_with entry text ≡ true → IsLongestTail tail (drop (length entry) text) n → IsLongestOfForm (is_entry tail entry) text (length entry + n)
unfolding is_entry
entry_found tail entry text n some begins h =
    let within : length entry + n ≤ length text = omega (arith, entry_within entry text begins, h.fits.within, length-drop (length entry) text) in
    record {
      fits = record {
        some = omega arith;
        within = within;
        fits = and_from (begins_with entry (take (length entry + n) text)) (is_tail tail (drop (length entry) (take (length entry + n) text)) (drop (length entry + n) text))
            (begins_front entry text (length entry + n) (omega arith) ∙ begins) (tail_at tail entry text n within ∙ h.fits.fits);
      };
      longest = λ m at. let there = entry_at tail entry text m at in omega (arith, there.0, h.longest (m - length entry) there.2);
    }

pub no_entry : (tail : Tail) (entry text : List ℕ) → begins_with entry text ≡ false → HasNoneOfForm (is_entry tail entry) text
no_entry tail entry text e n at = false≢true (sym e ∙ (entry_at tail entry text n at).1)

pub no_tail : (tail : Tail) (entry text : List ℕ) → ((n : ℕ) → IsTailAt tail (drop (length entry) text) n → ⊥) → HasNoneOfForm (is_entry tail entry) text
no_tail tail entry text none n at = none (n - length entry) (entry_at tail entry text n at).2

-- an empty table lists nothing
pub listed_none : (tail : Tail) (text : List ℕ) → HasNoneOfForm (is_listed tail []) text
unfolding is_listed
listed_none tail text n at = false≢true at.fits

-- one entry more
pub listed_more : (tail : Tail) (table : List (List ℕ)) (i : ℕ) (text : List ℕ) (found next : Option ℕ) → i < length table → FindsLongest (is_listed tail (take i table)) text found → FindsLongest (is_entry tail (get_or table i [])) text next → FindsLongest (is_listed tail (take (i + 1) table)) text (longer_of found next)
unfolding is_listed
listed_more tail table i text found next h f g =
    same_form (λ s after. is_listed tail (take i table) s after || is_entry tail (get_or table i []) s after) (is_listed tail (take (i + 1) table)) text (longer_of found next)
    (λ s after. sym (list_any_more (λ entry. is_entry tail entry s after) table i [] h))
    (either_longest (is_listed tail (take i table)) (is_entry tail (get_or table i [])) text found next f g)

-- the whole table
pub listed_all : (tail : Tail) (table : List (List ℕ)) (i : ℕ) (text : List ℕ) (found : Option ℕ) → length table ≤ i → FindsLongest (is_listed tail (take i table)) text found → FindsLongest (is_listed tail table) text found
listed_all tail table i text found h f = subst (λ t. FindsLongest (is_listed tail t) text found) (take_all i table h) f

-- an entry that a text begins with is opened by the text's first letter
opened_by : (tail : Tail) (table : List (List ℕ)) (text : List ℕ) (n : ℕ) → list_all (λ entry. nat_lt 0 (length entry)) table ≡ true → list_any (λ entry. is_entry tail entry (take n text) (drop n text)) table ≡ true → 0 < n → n ≤ length text → opens_entry table (first_letter text) ≡ true
unfolding opens_entry
opened_by tail [] text n some e pos within = e
opened_by tail (entry ∷ table) text n some e pos within =
    let parts = and_parts (nat_lt 0 (length entry)) (list_all (λ entry. nat_lt 0 (length entry)) table) some in
    elim (or_cases (is_entry tail entry (take n text) (drop n text)) (list_any (λ entry. is_entry tail entry (take n text) (drop n text)) table) e) [
      | inl here ↦
          let there = entry_at tail entry text n (record { some = pos; within = within; fits = here }) in
          or_left (first_letter entry == first_letter text) (list_any (λ entry. first_letter entry == first_letter text) table) (eq-eqb (first_letter entry) (first_letter text) (beginning_letter entry text (ltb-true 0 (length entry) parts.0) there.1))
      | inr later ↦ or_right (first_letter entry == first_letter text) (list_any (λ entry. first_letter entry == first_letter text) table) (opened_by tail table text n parts.1 later pos within)
    ]

-- a table lists nothing where no entry begins with the text's first letter
pub not_opened : (tail : Tail) (table : List (List ℕ)) (text : List ℕ) → list_all (λ entry. nat_lt 0 (length entry)) table ≡ true → opens_entry table (first_letter text) ≡ false → HasNoneOfForm (is_listed tail table) text
unfolding is_listed
not_opened tail table text some e n at = false≢true (sym e ∙ opened_by tail table text n some at.fits at.some at.within)

-- an entry of a table at the front of a text is one of those that begin with the text's first letter
only_from : (tail : Tail) (table : List (List ℕ)) (text : List ℕ) (n : ℕ) → list_all (λ entry. nat_lt 0 (length entry)) table ≡ true → 0 < n → n ≤ length text → list_any (λ entry. is_entry tail entry (take n text) (drop n text)) (entries_from (first_letter text) table) ≡ list_any (λ entry. is_entry tail entry (take n text) (drop n text)) table
unfolding entries_from
only_from tail [] text n some pos within = refl
only_from tail (entry ∷ table) text n some pos within =
    let parts = and_parts (nat_lt 0 (length entry)) (list_all (λ entry. nat_lt 0 (length entry)) table) some in
    let rest = only_from tail table text n parts.1 pos within in
    elim (cases_Bool (first_letter entry == first_letter text)) as (λ _. list_any (λ entry. is_entry tail entry (take n text) (drop n text)) (filter (λ entry. first_letter entry == first_letter text) (entry ∷ table)) ≡ list_any (λ entry. is_entry tail entry (take n text) (drop n text)) (entry ∷ table)) [
      | inl same ↦ rw same (ap (λ b. is_entry tail entry (take n text) (drop n text) || b) rest)
      | inr other ↦
          let no : is_entry tail entry (take n text) (drop n text) ≡ false = false_from_ne_true (is_entry tail entry (take n text) (drop n text)) (λ here.
          false≢true (sym other ∙ eq-eqb (first_letter entry) (first_letter text) (beginning_letter entry text (ltb-true 0 (length entry) parts.0) (entry_at tail entry text n (record { some = pos; within = within; fits = here })).1))) in
          rw (other, no) rest
    ]

from_table : (tail : Tail) (table : List (List ℕ)) (text : List ℕ) (n : ℕ) → list_all (λ entry. nat_lt 0 (length entry)) table ≡ true → IsFormAt (is_listed tail (entries_from (first_letter text) table)) text n → IsFormAt (is_listed tail table) text n
unfolding is_listed
from_table tail table text n some at = record { some = at.some; within = at.within; fits = sym (only_from tail table text n some at.some at.within) ∙ at.fits }

of_table : (tail : Tail) (table : List (List ℕ)) (text : List ℕ) (n : ℕ) → list_all (λ entry. nat_lt 0 (length entry)) table ≡ true → IsFormAt (is_listed tail table) text n → IsFormAt (is_listed tail (entries_from (first_letter text) table)) text n
unfolding is_listed
of_table tail table text n some at = record { some = at.some; within = at.within; fits = only_from tail table text n some at.some at.within ∙ at.fits }

from_found : (tail : Tail) (table : List (List ℕ)) (text : List ℕ) (found : Option ℕ) → list_all (λ entry. nat_lt 0 (length entry)) table ≡ true → FindsLongest (is_listed tail (entries_from (first_letter text) table)) text found → FindsLongest (is_listed tail table) text found
from_found tail table text None some h = λ n at. h n (of_table tail table text n some at)
from_found tail table text (Some n) some h = record { fits = from_table tail table text n some h.fits; longest = λ m at. h.longest m (of_table tail table text m some at) }

-- the longest of the entries that begin with the text's first letter is the longest of all
pub found_from : (tail : Tail) (table entries : List (List ℕ)) (text : List ℕ) (found : Option ℕ) → list_all (λ entry. nat_lt 0 (length entry)) table ≡ true → entries ≡ entries_from (first_letter text) table → FindsLongest (is_listed tail entries) text found → FindsLongest (is_listed tail table) text found
found_from tail table entries text found some e h = from_found tail table text found some (subst (λ l. FindsLongest (is_listed tail l) text found) e h)

pub marks_some : list_all (λ entry. nat_lt 0 (length entry)) marks ≡ true
unfolding marks mark_text
marks_some = refl

pub words_some : list_all (λ entry. nat_lt 0 (length entry)) sign_words ≡ true
unfolding sign_words
words_some = refl

-- no entry is empty
pub entry_some : (table : List (List ℕ)) (i : ℕ) → list_all (λ entry. nat_lt 0 (length entry)) table ≡ true → i < length table → 0 < length (get_or table i [])
entry_some table i e h = ltb-true 0 (length (get_or table i [])) (AllPass-from_list_all (λ entry. nat_lt 0 (length entry)) table e i [] h)
