-- The ends of sign words behind a sign: what stands there before and after words are written anew.
use Rattle.std.proofs.Common.{◌≡◌, ◌⊎◌, ℕ, zero, suc, ◌+◌, ◌<◌, ◌≤◌, Bool, true, false, not, ◌&&◌, ◌||◌, List, [], ◌∷◌, ◌++◌, length, take, drop, refl, sym, ◌∙◌, ap, subst, arith, inl, inr}
use Rattle.std.specs.Prelude.{◌==◌, nat_lt}
use Rattle.std.specs.List.{list_all, list_any}
use Rattle.std.specs.Char.{is_ascii_digit}
use Rattle.std.specs.Str.{str_eq_ignore_ascii_case}
use Rattle.std.proofs.lemmas.Bool.{and_parts, and_from, cases_lt, eqb-true, false≢true, false_from_ne_true, ltb-true, not-true, not_from_false, or_cases, or_left, or_right}
use Rattle.std.proofs.lemmas.Bool.Decides.{nat_tests}
use Rattle.std.proofs.lemmas.List.{length-append, length-take}
use Rattle.std.proofs.Math.Seq.{drop-append_seam, take-append-add}
use Rattle.stl_lexer.specs.declared.kinds.TokenKind.{TokenKind}
use Rattle.stl_lexer.specs.declared.kinds.TokenKind.TheVariants.{Word, Number, Quoted, Local, Characters, Based, NumberLiteral, TimeLiteral, Mark, SignWord, Attribute, Title}
use Rattle.stl_lexer.specs.Forms as forms
use Rattle.stl_lexer.specs.Bytes.{hash, double_quote, single_quote, open_brace, close_brace, is_line_byte, is_word_byte, is_word_start}
use Rattle.stl_lexer.specs.Forms.{has_form, is_word, is_number, is_run, is_closed_run, is_inner, is_enclosed, is_quoted, behind_sign, continues_word, begins_with, based_prefixes, long_prefixes, count_prefixes, time_prefixes, s5time_prefixes, sign_words, title_words}
use Rattle.stl_lexer.specs.Longest.{IsLongestToken, IsFormAt}
use Rattle.stl_lexer.specs.Marks.{marks, mark_text}
use Rattle.stl_lexer.specs.Pieces.{Piece, ArePiecesStanding, text_of_pieces}
use Rattle.stl_lexer.specs.Tokens.{is_minus}
use Rattle.de_mnemonics.specs.Places.{is_word_in_list}
use Rattle.translation_laws.specs.RewrittenText.{IsRewrittenText, is_non_joining_word, joining_words}
use Rattle.translation_laws.proofs.TextLemmas.{alike_fronts, among_alike, begins_fronts, first_same, fronts, fronts_back, fronts_cut, fronts_over, fronts_trans, fronts_within, heads, run_words, same_start, same_word_byte, whole_word, word_fronts}
use Rattle.translation_laws.proofs.GapsLemmas.{IsGapFront, gap_front}
use Rattle.translation_laws.proofs.AheadLemmas.{Front, ArePiecesAnew, anew, fits_here, front_of, gap_word, heads_back, heads_same, word_of}

-- ---- rows of tables

-- what belongs to a token behind the entry of a table
pub data Tail : Type 0 where
  Nothing : Tail
  Apart : Tail
  Run : Tail
  SignedRun : Tail
  Line : Tail

-- the lexer's word for it
unfoldable pub is_tail : Tail → List ℕ → List ℕ → Bool
is_tail Nothing s after = length s == 0
is_tail Apart s after = length s == 0 && not (continues_word after)
is_tail Run s after = list_all is_word_byte s
is_tail SignedRun s after = list_all is_word_byte (behind_sign s)
is_tail Line s after = list_all is_line_byte s && not (continues_word (s ++ after))

-- an entry with its tail
unfoldable pub is_entry : Tail → List ℕ → List ℕ → List ℕ → Bool
is_entry tail entry s after = begins_with entry s && is_tail tail (drop (length entry) s) after

-- one of the entries of a table, with its tail
unfoldable pub is_listed : Tail → List (List ℕ) → List ℕ → List ℕ → Bool
is_listed tail table s after = list_any (λ entry. is_entry tail entry s after) table

-- a kind whose tokens are entries of tables with their tails
abbrev pub is_table : TokenKind → Bool
is_table Based = true
is_table NumberLiteral = true
is_table TimeLiteral = true
is_table Mark = true
is_table SignWord = true
is_table Title = true
is_table _ = false

-- each entry of a kind's tables passes a test, with its tail
abbrev pub all_rows : TokenKind → (Tail → List ℕ → Bool) → Bool
all_rows Based test = list_all (test Run) based_prefixes
all_rows NumberLiteral test = list_all (test SignedRun) long_prefixes && list_all (test Run) count_prefixes
all_rows TimeLiteral test = list_all (test SignedRun) time_prefixes && list_all (test Run) s5time_prefixes
all_rows Mark test = list_all (test Nothing) marks
all_rows SignWord test = list_all (test Apart) sign_words
all_rows Title test = list_all (test Line) title_words
all_rows _ test = true

-- a text is an entry of a table with its tail
pub record IsEntryOf (tail : Tail) (table : List (List ℕ)) (test : List ℕ → Bool) (x after : List ℕ) : Type 0 where
  pub entry : List ℕ
  pub tested : test entry ≡ true
  pub begins : fronts entry x ≡ true
  pub ends : is_tail tail (drop (length entry) x) after ≡ true
  pub listed : (y z : List ℕ) → fronts entry y ≡ true → is_tail tail (drop (length entry) y) z ≡ true → is_listed tail table y z ≡ true

entry_of : (tail : Tail) (table : List (List ℕ)) (test : List ℕ → Bool) (x after : List ℕ) → list_all test table ≡ true → is_listed tail table x after ≡ true → IsEntryOf tail table test x after
unfolding is_listed is_entry
entry_of tail [] test x after all e = absurd (false≢true e)
entry_of tail (entry ∷ table) test x after all e =
    let tests = and_parts (test entry) (list_all test table) all in
    elim (or_cases (is_entry tail entry x after) (list_any (λ entry. is_entry tail entry x after) table) e) [
      | inl here ↦
          let parts = and_parts (begins_with entry x) (is_tail tail (drop (length entry) x) after) here in
          record {
            entry = entry;
            tested = tests.0;
            begins = sym (begins_fronts entry x) ∙ parts.0;
            ends = parts.1;
            listed = λ y z begins ends. or_left (is_entry tail entry y z) (list_any (λ entry. is_entry tail entry y z) table) (and_from (begins_with entry y) (is_tail tail (drop (length entry) y) z) (begins_fronts entry y ∙ begins) ends);
          }
      | inr later ↦
          let there = entry_of tail table test x after tests.1 later in
          record {
            entry = there.entry;
            tested = there.tested;
            begins = there.begins;
            ends = there.ends;
            listed = λ y z begins ends. or_right (is_entry tail entry y z) (list_any (λ entry. is_entry tail entry y z) table) (there.listed y z begins ends);
          }
    ]

-- a text of a kind is an entry of its tables with its tail
pub record IsRowOf (k : TokenKind) (test : Tail → List ℕ → Bool) (x after : List ℕ) : Type 0 where
  pub tail : Tail
  pub entry : List ℕ
  pub tested : test tail entry ≡ true
  pub begins : fronts entry x ≡ true
  pub ends : is_tail tail (drop (length entry) x) after ≡ true
  pub form : (y z : List ℕ) → fronts entry y ≡ true → is_tail tail (drop (length entry) y) z ≡ true → has_form k y z ≡ true

of_entry : (k : TokenKind) (test : Tail → List ℕ → Bool) (tail : Tail) (table : List (List ℕ)) (x after : List ℕ) → IsEntryOf tail table (test tail) x after → ((y z : List ℕ) → is_listed tail table y z ≡ true → has_form k y z ≡ true) → IsRowOf k test x after
of_entry k test tail table x after e kind = record {
  tail = tail;
  entry = e.entry;
  tested = e.tested;
  begins = e.begins;
  ends = e.ends;
  form = λ y z begins ends. kind y z (e.listed y z begins ends);
}

pub row_of : (k : TokenKind) (test : Tail → List ℕ → Bool) (x after : List ℕ) → is_table k ≡ true → all_rows k test ≡ true → has_form k x after ≡ true → IsRowOf k test x after
unfolding has_form forms.is_listed forms.is_entry forms.is_tail is_listed is_entry is_tail
row_of Word test x after t all e = absurd (false≢true t)
row_of Number test x after t all e = absurd (false≢true t)
row_of Quoted test x after t all e = absurd (false≢true t)
row_of Local test x after t all e = absurd (false≢true t)
row_of Characters test x after t all e = absurd (false≢true t)
row_of Based test x after t all e = of_entry Based test Run based_prefixes x after (entry_of Run based_prefixes (test Run) x after all e) (λ y z l. l)
row_of NumberLiteral test x after t all e =
    let tests = and_parts (list_all (test SignedRun) long_prefixes) (list_all (test Run) count_prefixes) all in
    elim (or_cases (is_listed SignedRun long_prefixes x after) (is_listed Run count_prefixes x after) e) [
      | inl a ↦ of_entry NumberLiteral test SignedRun long_prefixes x after (entry_of SignedRun long_prefixes (test SignedRun) x after tests.0 a) (λ y z l. or_left (is_listed SignedRun long_prefixes y z) (is_listed Run count_prefixes y z) l)
      | inr b ↦ of_entry NumberLiteral test Run count_prefixes x after (entry_of Run count_prefixes (test Run) x after tests.1 b) (λ y z l. or_right (is_listed SignedRun long_prefixes y z) (is_listed Run count_prefixes y z) l)
    ]
row_of TimeLiteral test x after t all e =
    let tests = and_parts (list_all (test SignedRun) time_prefixes) (list_all (test Run) s5time_prefixes) all in
    elim (or_cases (is_listed SignedRun time_prefixes x after) (is_listed Run s5time_prefixes x after) e) [
      | inl a ↦ of_entry TimeLiteral test SignedRun time_prefixes x after (entry_of SignedRun time_prefixes (test SignedRun) x after tests.0 a) (λ y z l. or_left (is_listed SignedRun time_prefixes y z) (is_listed Run s5time_prefixes y z) l)
      | inr b ↦ of_entry TimeLiteral test Run s5time_prefixes x after (entry_of Run s5time_prefixes (test Run) x after tests.1 b) (λ y z l. or_right (is_listed SignedRun time_prefixes y z) (is_listed Run s5time_prefixes y z) l)
    ]
row_of Mark test x after t all e = of_entry Mark test Nothing marks x after (entry_of Nothing marks (test Nothing) x after all e) (λ y z l. l)
row_of SignWord test x after t all e = of_entry SignWord test Apart sign_words x after (entry_of Apart sign_words (test Apart) x after all e) (λ y z l. l)
row_of Attribute test x after t all e = absurd (false≢true t)
row_of Title test x after t all e = of_entry Title test Line title_words x after (entry_of Line title_words (test Line) x after all e) (λ y z l. l)

-- ---- short words

-- an entry has another byte than a word's, or is as long as TITLE
no_short : Tail → List ℕ → Bool
no_short tail e = not (list_all is_word_byte e) || nat_lt 3 (length e)

none_short : (k : TokenKind) (x after : List ℕ) → is_table k ≡ true → all_rows k no_short ≡ true → has_form k x after ≡ true → list_all is_word_byte x ≡ true → length x < 4 → ⊥
unfolding no_short
none_short k x after t all e word short =
    let row = row_of k no_short x after t all e in
    elim (or_cases (not (list_all is_word_byte row.entry)) (nat_lt 3 (length row.entry)) row.tested) [
      | inl other ↦ false≢true (sym (not-true (list_all is_word_byte row.entry) other) ∙ word_fronts row.entry x row.begins word)
      | inr long ↦ absurd (omega (arith, fronts_within row.entry x row.begins, ltb-true 3 (length row.entry) long))
    ]

none_enclosed : (opening close : ℕ) (one_line : Bool) (x : List ℕ) → is_word_byte opening ≡ false → is_enclosed opening close one_line x ≡ true → list_all is_word_byte x ≡ true → ⊥
none_enclosed opening close one_line [] o e word = false≢true e
none_enclosed opening close one_line (b ∷ s) o e word =
    let first = eqb-true b opening (and_parts (b == opening) (is_closed_run (is_inner close one_line) close s) e).0 in
    false≢true (sym o ∙ ap is_word_byte (sym first) ∙ (and_parts (is_word_byte b) (list_all is_word_byte s) word).0)

none_local : (x : List ℕ) → has_form Local x [] ≡ true → list_all is_word_byte x ≡ true → ⊥
unfolding has_form is_word_byte is_word_start
none_local [] e word = false≢true e
none_local (b ∷ s) e word =
    let first = eqb-true b hash (and_parts (b == hash) (is_word s) e).0 in
    false≢true (ap is_word_byte (sym first) ∙ (and_parts (is_word_byte b) (list_all is_word_byte s) word).0)

-- a short text of word bytes is a word or a number
pub short_word : (k : TokenKind) (x after : List ℕ) → has_form k x after ≡ true → list_all is_word_byte x ≡ true → length x < 4 → (k ≡ Word) ⊎ (k ≡ Number)
unfolding has_form no_short based_prefixes long_prefixes count_prefixes time_prefixes s5time_prefixes marks mark_text sign_words title_words is_word_byte is_word_start
short_word Word x after e word short = inl refl
short_word Number x after e word short = inr refl
short_word Quoted x after e word short = absurd (none_enclosed double_quote double_quote true x refl (and_parts (is_enclosed double_quote double_quote true x) (nat_lt 2 (length x)) e).0 word)
short_word Local x after e word short = absurd (none_local x e word)
short_word Characters x after e word short = absurd (none_enclosed single_quote single_quote true x refl e word)
short_word Based x after e word short = absurd (none_short Based x after refl refl e word short)
short_word NumberLiteral x after e word short = absurd (none_short NumberLiteral x after refl refl e word short)
short_word TimeLiteral x after e word short = absurd (none_short TimeLiteral x after refl refl e word short)
short_word Mark x after e word short = absurd (none_short Mark x after refl refl e word short)
short_word SignWord x after e word short = absurd (none_short SignWord x after refl refl e word short)
short_word Attribute x after e word short = absurd (none_enclosed open_brace close_brace false x refl e word)
short_word Title x after e word short = absurd (none_short Title x after refl refl e word short)

-- ---- what a word or a number ends at

run_more : (f p : ℕ → Bool) (x : List ℕ) (b : ℕ) → is_run f p x ≡ true → p b ≡ true → is_run f p (x ++ b ∷ []) ≡ true
run_more f p [] b e h = absurd (false≢true e)
run_more f p (c ∷ x) b e h =
    let parts = and_parts (f c) (list_all p x) e in
    and_from (f c) (list_all p (x ++ b ∷ [])) parts.0 (all_more x parts.1)
  where
    all_more : (x : List ℕ) → list_all p x ≡ true → list_all p (x ++ b ∷ []) ≡ true
    all_more [] e = and_from (p b) true h refl
    all_more (c ∷ x) e =
        let parts = and_parts (p c) (list_all p x) e in
        and_from (p c) (list_all p (x ++ b ∷ [])) parts.0 (all_more x parts.1)

-- one byte more of a run
pub run_form : (f p : ℕ → Bool) (x a : List ℕ) → is_run f p x ≡ true → heads p a ≡ true → IsFormAt (λ y z. is_run f p y) (x ++ a) (length x + 1)
run_form f p x [] e h = absurd (false≢true h)
run_form f p x (b ∷ a) e h = record {
  some = omega arith;
  within = omega (arith, length-append x (b ∷ a));
  fits = ap (is_run f p) (take-append-add x (b ∷ a) 1) ∙ run_more f p x b e h;
}

-- a word ends where no byte of a word follows
pub word_ends : (x after : List ℕ) → IsLongestToken (x ++ after) Word (length x) → heads is_word_byte after ≡ false
unfolding has_form
word_ends x after l = false_from_ne_true (heads is_word_byte after) (λ h. elim (l.longest Word (length x + 1) (run_form is_word_start is_word_byte x after (fits_here Word x after l) h)) [
  | inl lt ↦ absurd (omega (arith, lt))
  | inr same ↦ absurd (omega (arith, same.0))
])

-- ---- ends of sign words

-- what stands behind the sign of a sign word: a digit, or a word
unfoldable pub is_ending : List ℕ → Bool
is_ending rest =
    list_all is_word_byte rest
    && (heads is_ascii_digit rest && length rest == 1 || heads is_word_start rest && (nat_lt (length rest) 4 && is_word_in_list joining_words rest))

-- a text begins with a word and goes on with none
abbrev pub ends_word : List ℕ → List ℕ → Bool
ends_word rest s = fronts rest s && not (heads is_word_byte (drop (length rest) s))

pub record IsEnding (rest : List ℕ) : Type 0 where
  pub words : list_all is_word_byte rest ≡ true
  pub short : length rest < 4
  pub which : ((heads is_ascii_digit rest ≡ true) × (length rest ≡ 1)) ⊎ ((heads is_word_start rest ≡ true) × (is_word_in_list joining_words rest ≡ true))

pub ending_is : (rest : List ℕ) → is_ending rest ≡ true → IsEnding rest
unfolding is_ending
ending_is rest e =
    let parts = and_parts (list_all is_word_byte rest) (heads is_ascii_digit rest && length rest == 1 || heads is_word_start rest && (nat_lt (length rest) 4 && is_word_in_list joining_words rest)) e in
    elim (or_cases (heads is_ascii_digit rest && length rest == 1) (heads is_word_start rest && (nat_lt (length rest) 4 && is_word_in_list joining_words rest)) parts.1) [
      | inl digit ↦
          let two = and_parts (heads is_ascii_digit rest) (length rest == 1) digit in
          let one = eqb-true (length rest) 1 two.1 in
          record { words = parts.0; short = omega (arith, one); which = inl (two.0, one) }
      | inr word ↦
          let two = and_parts (heads is_word_start rest) (nat_lt (length rest) 4 && is_word_in_list joining_words rest) word in
          let more = and_parts (nat_lt (length rest) 4) (is_word_in_list joining_words rest) two.1 in
          record { words = parts.0; short = ltb-true (length rest) 4 more.0; which = inr (two.0, more.1) }
    ]

heads_seen : (p : ℕ → Bool) (n : ℕ) (x a b : List ℕ) → n < length x → heads p (drop n (x ++ a)) ≡ heads p (drop n (x ++ b))
heads_seen p n [] a b h = absurd (omega (arith, h))
heads_seen p zero (c ∷ x) a b h = refl
heads_seen p (suc n) (c ∷ x) a b h = heads_seen p n x a b (omega (arith, h))

-- an end that lies in a token whole
word_end_within : (rest x a b : List ℕ) → length rest < length x → ends_word rest (x ++ a) ≡ true → ends_word rest (x ++ b) ≡ true
word_end_within rest x a b h e =
    let parts = and_parts (fronts rest (x ++ a)) (not (heads is_word_byte (drop (length rest) (x ++ a)))) e in
    and_from (fronts rest (x ++ b)) (not (heads is_word_byte (drop (length rest) (x ++ b))))
    (fronts_cut rest x b (omega (arith, h)) ∙ sym (fronts_cut rest x a (omega (arith, h))) ∙ parts.0)
    (ap not (heads_seen is_word_byte (length rest) x b a h) ∙ parts.1)

whole_ends : (rest w later : List ℕ) → list_all is_word_byte rest ≡ true → list_all is_word_byte w ≡ true → heads is_word_byte later ≡ false → ends_word rest (w ++ later) ≡ true → (length rest ≡ length w) × (fronts rest w ≡ true)
whole_ends rest w later word_rest word_w stops e =
    let parts = and_parts (fronts rest (w ++ later)) (not (heads is_word_byte (drop (length rest) (w ++ later)))) e in
    whole_word rest w later word_rest word_w stops parts.0 (not-true (heads is_word_byte (drop (length rest) (w ++ later))) parts.1)

ends_whole : (rest x after : List ℕ) → length rest ≡ length x → fronts rest x ≡ true → heads is_word_byte after ≡ false → ends_word rest (x ++ after) ≡ true
ends_whole rest x after size e stops =
    and_from (fronts rest (x ++ after)) (not (heads is_word_byte (drop (length rest) (x ++ after))))
    (fronts_cut rest x after (omega (arith, size)) ∙ e)
    (not_from_false (heads is_word_byte (drop (length rest) (x ++ after))) (ap (heads is_word_byte) (ap (λ n. drop n (x ++ after)) size ∙ drop-append_seam x after) ∙ stops))

-- the first byte where an end stands
pub first_word : (rest : List ℕ) (b : ℕ) (s : List ℕ) → 0 < length rest → list_all is_word_byte rest ≡ true → fronts rest (b ∷ s) ≡ true → is_word_byte b ≡ true
first_word [] b s some word e = absurd (omega (arith, some))
first_word (c ∷ rest) b s some word e = sym (same_word_byte c b (first_same c rest b s e).0) ∙ (and_parts (is_word_byte c) (list_all is_word_byte rest) word).0

first_start : (rest : List ℕ) (b : ℕ) (s : List ℕ) → heads is_word_start rest ≡ true → fronts rest (b ∷ s) ≡ true → is_word_start b ≡ true
first_start [] b s start e = absurd (false≢true start)
first_start (c ∷ rest) b s start e = sym (same_start c b (first_same c rest b s e).0) ∙ start

start_first : (rest : List ℕ) (b : ℕ) (s : List ℕ) → 0 < length rest → is_word_start b ≡ true → fronts rest (b ∷ s) ≡ true → heads is_word_start rest ≡ true
start_first [] b s some start e = absurd (omega (arith, some))
start_first (c ∷ rest) b s some start e = same_start c b (first_same c rest b s e).0 ∙ start

no_both : (b : ℕ) → is_ascii_digit b ≡ true → is_word_start b ≡ true → ⊥
unfolding is_word_start
no_both b digit start = grind (arith, nat_tests)

not_both : (s : List ℕ) → heads is_ascii_digit s ≡ true → heads is_word_start s ≡ true → ⊥
not_both [] digit start = false≢true digit
not_both (b ∷ s) digit start = no_both b digit start

pub ending_some : (rest : List ℕ) → IsEnding rest → 0 < length rest
ending_some [] e = elim e.which [ inl digit ↦ absurd (false≢true digit.0) | inr start ↦ absurd (false≢true start.0) ]
ending_some (c ∷ rest) e = omega arith

all_take : (p : ℕ → Bool) (n : ℕ) (s : List ℕ) → list_all p s ≡ true → list_all p (take n s) ≡ true
all_take p zero s e = refl
all_take p (suc n) [] e = refl
all_take p (suc n) (b ∷ s) e =
    let parts = and_parts (p b) (list_all p s) e in
    and_from (p b) (list_all p (take n s)) parts.0 (all_take p n s parts.1)

-- a word stays where it stood, and where it stands now
same_word_ends : (rest x after later : List ℕ) → IsEnding rest → list_all is_word_byte x ≡ true → heads is_word_byte after ≡ false → heads is_word_byte later ≡ false → ends_word rest (x ++ later) ≡ true → ends_word rest (x ++ after) ≡ true
same_word_ends rest x after later e word stops ends h =
    let whole = whole_ends rest x later e.words word ends h in
    ends_whole rest x after whole.0 whole.1 stops

number_ends : (rest x after later : List ℕ) → IsEnding rest → is_number x ≡ true → length x ≤ length rest → (heads is_word_byte later ≡ false → heads is_word_byte after ≡ false) → ends_word rest (x ++ later) ≡ true → ends_word rest (x ++ after) ≡ true
number_ends rest [] after later e number short back h = absurd (false≢true number)
number_ends rest (b ∷ x) after later e number short back h =
    let parts = and_parts (fronts rest ((b ∷ x) ++ later)) (not (heads is_word_byte (drop (length rest) ((b ∷ x) ++ later)))) h in
    elim e.which [
      | inl digit ↦
          let size : length rest ≡ length (b ∷ x) = omega (arith, digit.1, short) in
          let there : drop (length rest) ((b ∷ x) ++ later) ≡ later = ap (λ n. drop n ((b ∷ x) ++ later)) size ∙ drop-append_seam (b ∷ x) later in
          let stops : heads is_word_byte later ≡ false = ap (heads is_word_byte) (sym there) ∙ not-true (heads is_word_byte (drop (length rest) ((b ∷ x) ++ later))) parts.1 in
          ends_whole rest (b ∷ x) after size (sym (fronts_cut rest (b ∷ x) later (omega (arith, size))) ∙ parts.0) (back stops)
      | inr start ↦ absurd (no_both b (and_parts (is_ascii_digit b) (list_all is_ascii_digit x) number).0 (first_start rest b (x ++ later) start.0 parts.0))
    ]

-- another word in place of one
other_word_ends : (rest x w after later : List ℕ) → IsEnding rest → is_word x ≡ true → is_word w ≡ true → (str_eq_ignore_ascii_case x w ≡ true) ⊎ (is_non_joining_word w ≡ true) → heads is_word_byte after ≡ false → heads is_word_byte later ≡ false → ends_word rest (w ++ later) ≡ true → ends_word rest (x ++ after) ≡ true
unfolding is_non_joining_word
other_word_ends rest x [] after later e word_x word_w why stops ends h = absurd (false≢true word_w)
other_word_ends rest x (b ∷ w) after later e word_x word_w why stops ends h =
    let whole = whole_ends rest (b ∷ w) later e.words (run_words (b ∷ w) word_w) ends h in
    elim why [
      | inl alike ↦
          let same = alike_fronts x (b ∷ w) alike in
          ends_whole rest x after (whole.0 ∙ sym same.1) (fronts_trans rest (b ∷ w) x whole.1 (fronts_back x (b ∷ w) same.0 same.1)) stops
      | inr quiet ↦ elim e.which [
        | inl digit ↦ absurd (not_both rest digit.0 (start_first rest b w (ending_some rest e) (and_parts (is_word_start b) (list_all is_word_byte w) word_w).0 whole.1))
        | inr start ↦ absurd (false≢true (sym (not-true (is_word_in_list joining_words (b ∷ w)) quiet) ∙ among_alike joining_words (b ∷ w) rest (fronts_back rest (b ∷ w) whole.1 whole.0) (sym whole.0) start.1))
      ]
    ]

kept_ends : (kind : TokenKind) (x after later rest : List ℕ) → has_form kind x after ≡ true → (kind ≡ Word → heads is_word_byte after ≡ false) → Front kind after later → IsEnding rest → ends_word rest (x ++ later) ≡ true → ends_word rest (x ++ after) ≡ true
unfolding has_form
kept_ends kind x after later rest fits word f e h = elim (cases_lt (length rest) (length x)) [
  | inl inside ↦ word_end_within rest x later after inside h
  | inr beyond ↦
      let parts = and_parts (fronts rest (x ++ later)) (not (heads is_word_byte (drop (length rest) (x ++ later)))) h in
      let over = fronts_over rest x later beyond parts.0 in
      let size : length (take (length x) rest) ≡ length x = omega (arith, length-take (length x) rest, beyond) in
      let words = word_fronts x (take (length x) rest) (fronts_back (take (length x) rest) x over.0 size) (all_take is_word_byte (length x) rest e.words) in
      elim (short_word kind x after fits words (omega (arith, beyond, e.short))) [
        | inl is ↦ same_word_ends rest x after later e words (word is) (heads_same is_word_byte kind after later (word is) f ∙ word is) h
        | inr is ↦ number_ends rest x after later e (subst (λ k. has_form k x after ≡ true) is fits) beyond
            (λ stops. false_from_ne_true (heads is_word_byte after) (λ goes. false≢true (sym stops ∙ heads_back after later (subst (λ k. Front k after later) is f) goes))) h
      ]
]

-- an end of a sign word that stands behind a token stood there before
pub ending_at : (before kind : TokenKind) (gap x w after later rest : List ℕ) → 0 < length x → has_form kind x after ≡ true → (kind ≡ Word → heads is_word_byte after ≡ false) → IsGapFront gap
    → IsRewrittenText before kind x w → Front kind after later → is_ending rest ≡ true → ends_word rest (gap ++ (w ++ later)) ≡ true → ends_word rest (gap ++ (x ++ after)) ≡ true
unfolding is_word_byte is_word_start
ending_at before kind (c ∷ gap) x w after later rest some fits word gap_is r f ending h =
    let e = ending_is rest ending in
    let parts = and_parts (fronts rest ((c ∷ gap) ++ (w ++ later))) (not (heads is_word_byte (drop (length rest) ((c ∷ gap) ++ (w ++ later))))) h in
    absurd (gap_word c (first_word rest c (gap ++ (w ++ later)) (ending_some rest e) e.words parts.0) (gap_is c gap refl))
ending_at before kind [] x w after later rest some fits word gap_is (inl same) f ending h =
    kept_ends kind x after later rest fits word f (ending_is rest ending) (ap (λ v. ends_word rest (v ++ later)) same ∙ h)
ending_at before kind [] x w after later rest some fits word gap_is (inr (is, inl (new, why))) f ending h =
    other_word_ends rest x w after later (ending_is rest ending) (word_of kind x after fits is) new why (word is) (heads_same is_word_byte kind after later (word is) f ∙ word is) h
ending_at before kind [] x w after later rest some fits word gap_is (inr (is, inr (number, named))) f ending h =
    let e = ending_is rest ending in
    let there = ap (λ v. ends_word rest (v ++ later)) (sym named) ∙ h in
    let parts = and_parts (fronts rest (hash ∷ (x ++ later))) (not (heads is_word_byte (drop (length rest) (hash ∷ (x ++ later))))) there in
    absurd (false≢true (first_word rest hash (x ++ later) (ending_some rest e) e.words parts.0))

word_stops : (k : TokenKind) (x after : List ℕ) → IsLongestToken (x ++ after) k (length x) → k ≡ Word → heads is_word_byte after ≡ false
word_stops k x after l e = word_ends x after (subst (λ kind. IsLongestToken (x ++ after) kind (length x)) e l)

pub ending_of : (before : TokenKind) (minus : Bool) (ps : List Piece) (ws : List (List ℕ)) (end rest : List ℕ) → ArePiecesStanding minus ps end → ArePiecesAnew before ps ws → is_ending rest ≡ true
    → ends_word rest (text_of_pieces (anew ps ws) end) ≡ true → ends_word rest (text_of_pieces ps end) ≡ true
ending_of before minus [] [] end rest s r e h = h
ending_of before minus [] (w ∷ ws) end rest s r e h = absurd r
ending_of before minus (p ∷ ps) [] end rest s r e h = absurd r
ending_of before minus (p ∷ ps) (w ∷ ws) end rest (s, ss) (r, rs) e h =
    ending_at before p.kind p.gap p.text w (text_of_pieces ps end) (text_of_pieces (anew ps ws) end) rest s.longest.fits.some (fits_here p.kind p.text (text_of_pieces ps end) s.longest)
    (word_stops p.kind p.text (text_of_pieces ps end) s.longest) (gap_front p minus (text_of_pieces ps end) s) r
    (front_of p.kind (is_minus p.kind p.text) ps ws end ss rs) e h
