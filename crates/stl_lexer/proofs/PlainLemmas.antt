-- Kinds of tokens whose form has room for no foreign byte and no line's end.
use Rattle.std.proofs.Common.{◌≡◌, ℕ, ◌≤◌, Bool, true, false, not, List, [], ◌∷◌, length, take, drop, map, get_or, Some, None, refl, sym, ◌∙◌, ap, arith, inl, inr}
use Rattle.std.specs.Prelude.{◌==◌, nat_lt, if◌then◌else◌, position}
use Rattle.std.specs.List.{list_all, list_any, prefix_len, sum_by}
use Rattle.std.specs.Char.{is_ascii_digit, to_ascii_lowercase}
use Rattle.std.specs.Str.{str_to_ascii_lowercase}
use Rattle.std.proofs.lemmas.Slice.Eq.{bytes_eq-Decides}
use Rattle.std.proofs.lemmas.Bool.{and_parts, and_from, eqb-true, false≢true, false_from_ne_true, ltb-true, not-true, or_cases}
use Rattle.std.proofs.lemmas.Bool.Decides.{nat_tests}
use Rattle.std.proofs.lemmas.List.{length-drop, take_all}
use Rattle.std.proofs.lemmas.List.Folds.{sum_by-zero}
use Rattle.stl_lexer.specs.declared.kinds.TokenKind.TheVariants.{Word, Number, Mark}
use Rattle.stl_lexer.specs.declared.tables.Tail.TheVariants.{Nothing}
use Rattle.stl_lexer.specs.Bytes.{newline, is_source_byte, is_separator, is_word_byte, is_word_start}
use Rattle.stl_lexer.specs.Forms.{begins_with, has_form, is_entry, is_listed, is_run, is_tail}
use Rattle.stl_lexer.specs.Gap.{is_comment_byte, newlines_of}
use Rattle.stl_lexer.specs.Marks.{marks, mark_text}
use Rattle.stl_lexer.proofs.RuleLemmas.{all_run}

-- ---- runs

all_kept : (p q : ℕ → Bool) → ((b : ℕ) → p b ≡ true → q b ≡ true) → (s : List ℕ) → list_all p s ≡ true → list_all q s ≡ true
all_kept p q kept [] e = refl
all_kept p q kept (b ∷ s) e =
    let parts = and_parts (p b) (list_all p s) e in
    and_from (q b) (list_all q s) (kept b parts.0) (all_kept p q kept s parts.1)

run_plain : (f p : ℕ → Bool) → ((b : ℕ) → f b ≡ true → is_comment_byte b ≡ true) → ((b : ℕ) → p b ≡ true → is_comment_byte b ≡ true) → (s : List ℕ) → is_run f p s ≡ true → list_all is_comment_byte s ≡ true
run_plain f p first plain [] e = refl
run_plain f p first plain (b ∷ s) e =
    let parts = and_parts (f b) (list_all p s) e in
    and_from (is_comment_byte b) (list_all is_comment_byte s) (first b parts.0) (all_kept p is_comment_byte plain s parts.1)

start_plain : (b : ℕ) → is_word_start b ≡ true → is_comment_byte b ≡ true
unfolding is_word_start is_comment_byte is_source_byte is_separator
start_plain b e = grind (arith, nat_tests)

word_byte_plain : (b : ℕ) → is_word_byte b ≡ true → is_comment_byte b ≡ true
unfolding is_word_byte is_word_start is_comment_byte is_source_byte is_separator
word_byte_plain b e = grind (arith, nat_tests)

digit_plain : (b : ℕ) → is_ascii_digit b ≡ true → is_comment_byte b ≡ true
unfolding is_comment_byte is_source_byte is_separator
digit_plain b e = grind (arith, nat_tests)

pub plain_word : (s after : List ℕ) → has_form Word s after ≡ true → list_all is_comment_byte s ≡ true
unfolding has_form
plain_word s after e = run_plain is_word_start is_word_byte start_plain word_byte_plain s e

pub plain_number : (s after : List ℕ) → has_form Number s after ≡ true → list_all is_comment_byte s ≡ true
unfolding has_form
plain_number s after e = run_plain is_ascii_digit is_ascii_digit digit_plain digit_plain s e

-- ---- marks

plain_lower : (b : ℕ) → is_comment_byte b ≡ is_comment_byte (to_ascii_lowercase b)
unfolding is_comment_byte is_source_byte is_separator
plain_lower b = grind (arith, nat_tests)

same_plain : (entry s : List ℕ) → map to_ascii_lowercase entry ≡ map to_ascii_lowercase s → list_all is_comment_byte entry ≡ true → list_all is_comment_byte s ≡ true
same_plain [] [] e plain = refl
same_plain (c ∷ entry) [] e plain = refl
same_plain [] (b ∷ s) e plain = absurd (omega (arith, ap length e))
same_plain (c ∷ entry) (b ∷ s) e plain =
    let head : to_ascii_lowercase c ≡ to_ascii_lowercase b = ap (λ l. get_or l 0 0) e in
    let parts = and_parts (is_comment_byte c) (list_all is_comment_byte entry) plain in
    and_from (is_comment_byte b) (list_all is_comment_byte s) (plain_lower b ∙ ap is_comment_byte (sym head) ∙ sym (plain_lower c) ∙ parts.0) (same_plain entry s (ap (drop 1) e) parts.1)

entry_plain : (entry s after : List ℕ) → is_entry Nothing entry s after ≡ true → list_all is_comment_byte entry ≡ true → list_all is_comment_byte s ≡ true
unfolding is_entry is_tail begins_with
entry_plain entry s after e plain =
    let parts = and_parts (begins_with entry s) (length (drop (length entry) s) == 0) e in
    let short : length s ≤ length entry = omega (arith, eqb-true (length (drop (length entry) s)) 0 parts.1, length-drop (length entry) s) in
    let low = (bytes_eq-Decides (str_to_ascii_lowercase entry) (str_to_ascii_lowercase (take (length entry) s))).0 parts.0 in
    same_plain entry s (low ∙ ap str_to_ascii_lowercase (take_all (length entry) s short)) plain

listed_plain : (table : List (List ℕ)) (s after : List ℕ) → list_all (list_all is_comment_byte) table ≡ true → list_any (λ entry. is_entry Nothing entry s after) table ≡ true → list_all is_comment_byte s ≡ true
listed_plain [] s after plain e = absurd (false≢true e)
listed_plain (entry ∷ table) s after plain e =
    let parts = and_parts (list_all is_comment_byte entry) (list_all (list_all is_comment_byte) table) plain in
    elim (or_cases (is_entry Nothing entry s after) (list_any (λ entry. is_entry Nothing entry s after) table) e) [
      | inl here ↦ entry_plain entry s after here parts.0
      | inr later ↦ listed_plain table s after parts.1 later
    ]

marks_plain : list_all (list_all is_comment_byte) marks ≡ true
unfolding marks mark_text is_comment_byte is_source_byte is_separator
marks_plain = refl

pub plain_mark : (s after : List ℕ) → has_form Mark s after ≡ true → list_all is_comment_byte s ≡ true
unfolding has_form is_listed
plain_mark s after e = listed_plain marks s after marks_plain e

-- ---- what plain bytes hold

not_foreign : (b : ℕ) → is_comment_byte b ≡ true → not (not (is_source_byte b)) ≡ true
unfolding is_comment_byte
not_foreign b e = rw (and_parts (is_source_byte b) (not (b == newline)) e).0 refl

no_place : (m n : ℕ) → m ≡ n → (if nat_lt m n then Some m else None) ≡ None
no_place m n e =
    let no : nat_lt m n ≡ false = false_from_ne_true (nat_lt m n) (λ t. absurd (omega (arith, ltb-true m n t, e))) in
    rw no refl

pub none_foreign : (s : List ℕ) → list_all is_comment_byte s ≡ true → position (λ b. not (is_source_byte b)) s ≡ None
none_foreign s e =
    let all = all_kept is_comment_byte (λ b. not (not (is_source_byte b))) not_foreign s e in
    no_place (prefix_len (λ b. not (not (is_source_byte b))) s) (length s) (eqb-true (prefix_len (λ b. not (not (is_source_byte b))) s) (length s) (sym (all_run (λ b. not (not (is_source_byte b))) s) ∙ all))

no_newline : (b : ℕ) → is_comment_byte b ≡ true → (newlines_of b == 0) ≡ true
unfolding is_comment_byte
no_newline b e = rw (not-true (b == newline) (and_parts (is_source_byte b) (not (b == newline)) e).1) refl

pub no_lines : (s : List ℕ) → list_all is_comment_byte s ≡ true → sum_by newlines_of s ≡ 0
no_lines s e = eqb-true (sum_by newlines_of s) 0 (sum_by-zero newlines_of s ∙ all_kept is_comment_byte (λ b. newlines_of b == 0) no_newline s e)
