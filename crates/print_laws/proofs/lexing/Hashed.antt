-- Tokens that begin with a word and `#`: constants, local names and the mark of pointers.
use Rattle.std.proofs.Common.{◌≡◌, ◌⊎◌, ℕ, zero, suc, ◌+◌, ◌-◌, ◌<◌, ◌≤◌, Bool, true, false, not, ◌&&◌, ◌||◌, List, [], ◌∷◌, ◌++◌, length, take, drop, Some, refl, sym, ◌∙◌, ap, subst, arith, inl, inr}
use Rattle.std.specs.Prelude.{◌==◌, codes}
use Rattle.std.specs.List.{list_all, prefix_len}
use Rattle.std.specs.Char.{is_ascii_digit}
use Rattle.std.specs.Str.{bytes_eq}
use Rattle.std.proofs.lemmas.Bool.{and_parts, and_from, cases_Bool, cases_lt, eqb-true, false≢true, not-true, or_cases}
use Rattle.std.proofs.lemmas.Bool.Decides.{nat_tests}
use Rattle.std.proofs.lemmas.List.{append_assoc, drop-take, length-append}
use Rattle.std.proofs.lemmas.Slice.Eq.{bytes_eq-Decides}
use Rattle.std.proofs.Math.Seq.{drop-append_seam, take-append_seam}
use Rattle.stl_lexer.specs.declared.kinds.TokenKind.{TokenKind}
use Rattle.stl_lexer.specs.declared.kinds.TokenKind.TheVariants.{Word, Number, Quoted, Local, Characters, Based, NumberLiteral, TimeLiteral, Mark, SignWord, Attribute, Title}
use Rattle.stl_lexer.specs.Bytes.{hash, double_quote, single_quote, open_brace, close_brace, is_sign, is_word_byte, is_word_start}
use Rattle.stl_lexer.specs.Forms as forms
use Rattle.stl_lexer.specs.Forms.{has_form, begins_with, is_word, is_local_name, behind_sign, based_prefixes, long_prefixes, count_prefixes, time_prefixes, s5time_prefixes, sign_words, title_words}
use Rattle.stl_lexer.specs.Longest.{IsFormAt, IsLongestToken, IsLongestOfForm, kind_rank}
use Rattle.stl_lexer.specs.Marks.{marks, mark_text}
use Rattle.stl_lexer.specs.Pieces.{stops_token}
use Rattle.stl_lexer.proofs.FrontLemmas.{local_alone}
use Rattle.stl_lexer.proofs.QuoteLemmas.{not_opened, not_quoted}
use Rattle.stl_lexer.proofs.RankLemmas.{same_rank}
use Rattle.stl_lexer.proofs.RunLemmas.{run_longest, run_none}
use Rattle.print_laws.proofs.lexing.Fronts.{Tail, IsBound, Nothing, Apart, Run, SignedRun, Line, all_allowed, all_rows, any_byte, ends_in, entry_ends, entry_never, fronts, has_tail, is_table, is_tail, never, rows_none, rows_within, word_within}
use Rattle.print_laws.proofs.lexing.Marks.{at_most, form_here, mark_form, marks_within}
use Rattle.print_laws.proofs.lexing.Numerals.{passes_to}

-- the tables of another kind have no entry that a text begins with which begins with known bytes
abbrev is_apart : TokenKind → List ℕ → TokenKind → Bool
is_apart k known j = (kind_rank j == kind_rank k) || all_rows j (never any_byte known)

-- this is so of all kinds but the token's own
abbrev pub is_alone : TokenKind → List ℕ → Bool
is_alone k known =
    is_apart k known Based && (is_apart k known NumberLiteral && (is_apart k known TimeLiteral
    && (is_apart k known Mark && (is_apart k known SignWord && is_apart k known Title))))

record IsApartFrom (k : TokenKind) (known : List ℕ) : Type 0 where
  based : is_apart k known Based ≡ true
  number : is_apart k known NumberLiteral ≡ true
  time : is_apart k known TimeLiteral ≡ true
  mark : is_apart k known Mark ≡ true
  sign : is_apart k known SignWord ≡ true
  title : is_apart k known Title ≡ true

apart_parts : (k : TokenKind) (known : List ℕ) → is_alone k known ≡ true → IsApartFrom k known
apart_parts k known e =
    let a = and_parts (is_apart k known Based) (is_apart k known NumberLiteral && (is_apart k known TimeLiteral && (is_apart k known Mark && (is_apart k known SignWord && is_apart k known Title)))) e in
    let b = and_parts (is_apart k known NumberLiteral) (is_apart k known TimeLiteral && (is_apart k known Mark && (is_apart k known SignWord && is_apart k known Title))) a.1 in
    let c = and_parts (is_apart k known TimeLiteral) (is_apart k known Mark && (is_apart k known SignWord && is_apart k known Title)) b.1 in
    let d = and_parts (is_apart k known Mark) (is_apart k known SignWord && is_apart k known Title) c.1 in
    let f = and_parts (is_apart k known SignWord) (is_apart k known Title) d.1 in
    record { based = a.0; number = b.0; time = c.0; mark = d.0; sign = f.0; title = f.1 }

start_no_digit : (b : ℕ) → is_word_start b ≡ true → is_ascii_digit b ≡ false
unfolding is_word_start
start_no_digit b e = grind (arith, nat_tests)

-- known bytes that begin with a word, which is shorter than the token
pub hash_longest : (k : TokenKind) (b : ℕ) (known rest : List ℕ) (n : ℕ) → is_word_start b ≡ true → suc (prefix_len is_word_byte (known ++ rest)) < n
    → is_alone k (b ∷ known) ≡ true → IsFormAt (has_form k) (b ∷ (known ++ rest)) n
    → ((m : ℕ) → IsFormAt (has_form k) (b ∷ (known ++ rest)) m → m ≤ n)
    → IsLongestToken (b ∷ (known ++ rest)) k n
unfolding has_form is_word_start
hash_longest k b known rest n start short alone fits own = record { fits = fits; longest = longest } where
  text : List ℕ
  text = b ∷ (known ++ rest)

  parts : IsApartFrom k (b ∷ known)
  parts = apart_parts k (b ∷ known) alone

  other : (c : ℕ) → is_word_start c ≡ false → b ≡ c → ⊥
  other c e is = false≢true (sym e ∙ ap is_word_start (sym is) ∙ start)

  table : (j : TokenKind) → is_table j ≡ true → is_apart k (b ∷ known) j ≡ true → (m : ℕ) → IsFormAt (has_form j) (b ∷ (known ++ rest)) m → (m < n) ⊎ ((m ≡ n) × (kind_rank j ≤ kind_rank k))
  table j t apart m at = elim (or_cases (kind_rank j == kind_rank k) (all_rows j (never any_byte (b ∷ known))) apart) [
    | inl same ↦
        let rank = eqb-true (kind_rank j) (kind_rank k) same in
        at_most m n (kind_rank j) (kind_rank k) (own m (subst (λ (i : TokenKind). IsFormAt (has_form i) (b ∷ (known ++ rest)) m) (same_rank j k rank) at)) (omega (arith, rank))
    | inr none ↦ absurd (rows_none j (never any_byte (b ∷ known)) (b ∷ (known ++ rest)) t none (λ entry e f. entry_never any_byte (b ∷ known) entry rest e (all_allowed rest) f) m at)
  ]

  longest : (j : TokenKind) (m : ℕ) → IsFormAt (has_form j) (b ∷ (known ++ rest)) m → (m < n) ⊎ ((m ≡ n) × (kind_rank j ≤ kind_rank k))
  longest Word m at = inl (omega (arith, word_within b (known ++ rest) m at, short))
  longest Number m at = absurd (run_none is_ascii_digit is_ascii_digit (b ∷ (known ++ rest)) (λ _. start_no_digit b start) m at)
  longest Quoted m at = absurd (not_quoted (b ∷ (known ++ rest)) (not_opened double_quote double_quote true (b ∷ (known ++ rest)) (λ _. other double_quote refl)) m at)
  longest Local zero at = absurd (omega (arith, at.some))
  longest Local (suc m) at = absurd (other hash refl (eqb-true b hash (and_parts (b == hash) (is_word (take m (known ++ rest))) at.fits).0))
  longest Characters m at = absurd (not_opened single_quote single_quote true (b ∷ (known ++ rest)) (λ _. other single_quote refl) m at)
  longest Based m at = table Based refl parts.based m at
  longest NumberLiteral m at = table NumberLiteral refl parts.number m at
  longest TimeLiteral m at = table TimeLiteral refl parts.time m at
  longest Mark m at = table Mark refl parts.mark m at
  longest SignWord m at = table SignWord refl parts.sign m at
  longest Attribute m at = absurd (not_opened open_brace close_brace false (b ∷ (known ++ rest)) (λ _. other open_brace refl) m at)
  longest Title m at = table Title refl parts.title m at

-- ---- the run behind a prefix

pub stops_run : (after : List ℕ) → stops_token after ≡ true → prefix_len is_word_byte after ≡ 0
stops_run [] e = refl
stops_run (b ∷ s) e = rw (not-true (is_word_byte b) (and_parts (not (is_word_byte b)) (not (b == hash)) e).0) refl

-- bytes behind a prefix that is taken
behind_taken : (known rest : List ℕ) (m : ℕ) → length known < m → drop (length known) (take m (known ++ rest)) ≡ take (m - length known) rest
behind_taken known rest m h =
    let whole : length known + (m - length known) ≡ m = omega arith in
    ap (λ k. drop (length known) (take k (known ++ rest))) (sym whole)
    ∙ drop-take (length known) (m - length known) (known ++ rest)
    ∙ ap (take (m - length known)) (drop-append_seam known rest)

-- word bytes behind a prefix end where a run of them does
run_within : (known text after : List ℕ) (m : ℕ) → m ≤ length (known ++ (text ++ after)) → list_all is_word_byte text ≡ true → stops_token after ≡ true
    → list_all is_word_byte (drop (length known) (take m (known ++ (text ++ after)))) ≡ true → m ≤ length known + length text
run_within known text after m within all stop e = elim (cases_lt (length known) m) [
  | inl more ↦
      let there = ap (list_all is_word_byte) (sym (behind_taken known (text ++ after) m more)) ∙ e in
      let run = run_longest is_word_byte (text ++ after) (m - length known) (omega (arith, within, length-append known (text ++ after))) there in
      omega (arith, run, passes_to is_word_byte text after all (stops_run after stop))
  | inr less ↦ omega arith
]

-- the same behind a sign
signed_run : (text after : List ℕ) (j : ℕ) → 0 < length text → j ≤ length (text ++ after) → list_all is_word_byte (behind_sign text) ≡ true → stops_token after ≡ true
    → list_all is_word_byte (behind_sign (take j (text ++ after))) ≡ true → j ≤ length text
unfolding behind_sign
signed_run [] after j some within all stop e = absurd (omega (arith, some))
signed_run (b ∷ s) after zero some within all stop e = omega arith
signed_run (b ∷ s) after (suc j) some within all stop e = elim (cases_Bool (is_sign b)) [
  | inl yes_ ↦
      let run = run_longest is_word_byte (s ++ after) j (omega (arith, within)) (rw yes_ at e) in
      omega (arith, run, passes_to is_word_byte s after (rw yes_ at all) (stops_run after stop))
  | inr no_ ↦
      let run = run_longest is_word_byte ((b ∷ s) ++ after) (suc j) within (rw no_ at e) in
      omega (arith, run, passes_to is_word_byte (b ∷ s) after (rw no_ at all) (stops_run after stop))
]

signed_within : (known text after : List ℕ) (m : ℕ) → 0 < length text → m ≤ length (known ++ (text ++ after)) → list_all is_word_byte (behind_sign text) ≡ true → stops_token after ≡ true
    → list_all is_word_byte (behind_sign (drop (length known) (take m (known ++ (text ++ after))))) ≡ true → m ≤ length known + length text
signed_within known text after m some within all stop e = elim (cases_lt (length known) m) [
  | inl more ↦
      let there = ap (λ s. list_all is_word_byte (behind_sign s)) (sym (behind_taken known (text ++ after) m more)) ∙ e in
      omega (arith, signed_run text after (m - length known) some (omega (arith, within, length-append known (text ++ after))) all stop there)
  | inr less ↦ omega arith
]

-- an entry is the prefix itself, or isn't there
abbrev is_only : List ℕ → List ℕ → Bool
is_only known entry = bytes_eq entry known || never any_byte known entry

only : (known entry rest : List ℕ) → is_only known entry ≡ true → fronts entry (known ++ rest) ≡ true → entry ≡ known
only known entry rest e f = elim (or_cases (bytes_eq entry known) (never any_byte known entry) e) [
  | inl same ↦ (bytes_eq-Decides entry known).0 same
  | inr none ↦ absurd (entry_never any_byte known entry rest none (all_allowed rest) f)
]

-- ---- binary and hexadecimal constants

based_within : (known text after : List ℕ) → list_all (is_only known) based_prefixes ≡ true → list_all is_word_byte text ≡ true → stops_token after ≡ true
    → (m : ℕ) → IsFormAt (has_form Based) (known ++ (text ++ after)) m → m ≤ length known + length text
unfolding is_tail
based_within known text after all words stop m at = rows_within Based (is_only known) (known ++ (text ++ after)) m (length known + length text) refl all bound at where
  bound : (tail : Tail) → has_tail Based tail ≡ true → IsBound tail (is_only known) (known ++ (text ++ after)) m (length known + length text)
  bound Nothing has entry e f t = absurd (false≢true has)
  bound Apart has entry e f t = absurd (false≢true has)
  bound Run has entry e f t = run_within known text after m at.within words stop (ap (λ (p : List ℕ). list_all is_word_byte (drop (length p) (take m (known ++ (text ++ after))))) (sym (only known entry (text ++ after) e f)) ∙ t)
  bound SignedRun has entry e f t = absurd (false≢true has)
  bound Line has entry e f t = absurd (false≢true has)

based_stands : (b : ℕ) (known text after : List ℕ) → is_word_start b ≡ true → suc (prefix_len is_word_byte (known ++ (text ++ after))) < length (b ∷ known) → is_alone Based (b ∷ known) ≡ true
    → list_all (is_only (b ∷ known)) based_prefixes ≡ true → has_form Based ((b ∷ known) ++ text) after ≡ true → list_all is_word_byte text ≡ true → stops_token after ≡ true
    → IsLongestToken (b ∷ (known ++ (text ++ after))) Based (length ((b ∷ known) ++ text))
based_stands b known text after start short alone all form words stop =
    let size = length-append (b ∷ known) text in
    hash_longest Based b known (text ++ after) (length ((b ∷ known) ++ text)) start (omega (arith, short, size)) alone
    (subst (λ (s : List ℕ). IsFormAt (has_form Based) s (length ((b ∷ known) ++ text))) (append_assoc (b ∷ known) text after) (form_here Based ((b ∷ known) ++ text) after (omega (arith, size)) form))
    (λ m at. omega (arith, size, based_within (b ∷ known) text after all words stop m at))

pub byte_stands : (text after : List ℕ) → list_all is_word_byte text ≡ true → stops_token after ≡ true → IsLongestToken (codes "B#16#" ++ (text ++ after)) Based (length (codes "B#16#" ++ text))
unfolding has_form forms.is_listed forms.is_entry forms.is_tail begins_with is_word_start is_word_byte based_prefixes long_prefixes count_prefixes time_prefixes s5time_prefixes sign_words title_words marks mark_text
byte_stands text after words stop = based_stands 66 (codes "#16#") text after refl (omega arith) refl refl (rw words refl) words stop

pub word_stands : (text after : List ℕ) → list_all is_word_byte text ≡ true → stops_token after ≡ true → IsLongestToken (codes "W#16#" ++ (text ++ after)) Based (length (codes "W#16#" ++ text))
unfolding has_form forms.is_listed forms.is_entry forms.is_tail begins_with is_word_start is_word_byte based_prefixes long_prefixes count_prefixes time_prefixes s5time_prefixes sign_words title_words marks mark_text
word_stands text after words stop = based_stands 87 (codes "#16#") text after refl (omega arith) refl refl (rw words refl) words stop

pub dword_stands : (text after : List ℕ) → list_all is_word_byte text ≡ true → stops_token after ≡ true → IsLongestToken (codes "DW#16#" ++ (text ++ after)) Based (length (codes "DW#16#" ++ text))
unfolding has_form forms.is_listed forms.is_entry forms.is_tail begins_with is_word_start is_word_byte based_prefixes long_prefixes count_prefixes time_prefixes s5time_prefixes sign_words title_words marks mark_text
dword_stands text after words stop = based_stands 68 (codes "W#16#") text after refl (omega arith) refl refl (rw words refl) words stop

-- ---- long numbers and times

-- word bytes without a sign are word bytes without the first
behind_words : (s : List ℕ) → list_all is_word_byte s ≡ true → list_all is_word_byte (behind_sign s) ≡ true
unfolding behind_sign
behind_words [] e = refl
behind_words (b ∷ s) e = elim (cases_Bool (is_sign b)) as (λ _. list_all is_word_byte (behind_sign (b ∷ s)) ≡ true) [
  | inl yes_ ↦ rw yes_ ((and_parts (is_word_byte b) (list_all is_word_byte s) e).1)
  | inr no_ ↦ rw no_ e
]

-- what a table with signs, and one without, list behind a prefix
signed_bound : (known text after : List ℕ) (m : ℕ) → 0 < length text → m ≤ length (known ++ (text ++ after)) → list_all is_word_byte (behind_sign text) ≡ true → stops_token after ≡ true
    → (entry : List ℕ) → is_only known entry ≡ true → fronts entry (known ++ (text ++ after)) ≡ true
    → list_all is_word_byte (behind_sign (drop (length entry) (take m (known ++ (text ++ after))))) ≡ true → m ≤ length known + length text
signed_bound known text after m some within words stop entry e f t =
    signed_within known text after m some within words stop
    (ap (λ (p : List ℕ). list_all is_word_byte (behind_sign (drop (length p) (take m (known ++ (text ++ after)))))) (sym (only known entry (text ++ after) e f)) ∙ t)

long_within : (known text after : List ℕ) → all_rows NumberLiteral (is_only known) ≡ true → 0 < length text → list_all is_word_byte (behind_sign text) ≡ true → stops_token after ≡ true
    → (m : ℕ) → IsFormAt (has_form NumberLiteral) (known ++ (text ++ after)) m → m ≤ length known + length text
unfolding is_tail
long_within known text after all some words stop m at = rows_within NumberLiteral (is_only known) (known ++ (text ++ after)) m (length known + length text) refl all bound at where
  bound : (tail : Tail) → has_tail NumberLiteral tail ≡ true → IsBound tail (is_only known) (known ++ (text ++ after)) m (length known + length text)
  bound Nothing has entry e f t = absurd (false≢true has)
  bound Apart has entry e f t = absurd (false≢true has)
  bound Run has entry e f t = signed_bound known text after m some at.within words stop entry e f (behind_words (drop (length entry) (take m (known ++ (text ++ after)))) t)
  bound SignedRun has entry e f t = signed_bound known text after m some at.within words stop entry e f t
  bound Line has entry e f t = absurd (false≢true has)

time_within : (known text after : List ℕ) → all_rows TimeLiteral (is_only known) ≡ true → 0 < length text → list_all is_word_byte (behind_sign text) ≡ true → stops_token after ≡ true
    → (m : ℕ) → IsFormAt (has_form TimeLiteral) (known ++ (text ++ after)) m → m ≤ length known + length text
unfolding is_tail
time_within known text after all some words stop m at = rows_within TimeLiteral (is_only known) (known ++ (text ++ after)) m (length known + length text) refl all bound at where
  bound : (tail : Tail) → has_tail TimeLiteral tail ≡ true → IsBound tail (is_only known) (known ++ (text ++ after)) m (length known + length text)
  bound Nothing has entry e f t = absurd (false≢true has)
  bound Apart has entry e f t = absurd (false≢true has)
  bound Run has entry e f t = signed_bound known text after m some at.within words stop entry e f (behind_words (drop (length entry) (take m (known ++ (text ++ after)))) t)
  bound SignedRun has entry e f t = signed_bound known text after m some at.within words stop entry e f t
  bound Line has entry e f t = absurd (false≢true has)

-- a number of 32 bits: digits, with a sign or none
pub long_stands : (text after : List ℕ) → 0 < length text → list_all is_word_byte (behind_sign text) ≡ true → stops_token after ≡ true → IsLongestToken (codes "L#" ++ (text ++ after)) NumberLiteral (length (codes "L#" ++ text))
unfolding has_form forms.is_listed forms.is_entry forms.is_tail begins_with is_word_start is_word_byte based_prefixes long_prefixes count_prefixes time_prefixes s5time_prefixes sign_words title_words marks mark_text
long_stands text after some words stop =
    hash_longest NumberLiteral 76 (codes "#") (text ++ after) (length (codes "L#" ++ text)) refl (omega (arith, some)) refl
    (form_here NumberLiteral (codes "L#" ++ text) after (omega arith) (rw words refl))
    (λ m at. omega (arith, long_within (codes "L#") text after refl some words stop m at))

-- a time
pub time_stands : (text after : List ℕ) → 0 < length text → list_all is_word_byte (behind_sign text) ≡ true → stops_token after ≡ true → IsLongestToken (codes "T#" ++ (text ++ after)) TimeLiteral (length (codes "T#" ++ text))
unfolding has_form forms.is_listed forms.is_entry forms.is_tail begins_with is_word_start is_word_byte based_prefixes long_prefixes count_prefixes time_prefixes s5time_prefixes sign_words title_words marks mark_text
time_stands text after some words stop =
    hash_longest TimeLiteral 84 (codes "#") (text ++ after) (length (codes "T#" ++ text)) refl (omega (arith, some)) refl
    (form_here TimeLiteral (codes "T#" ++ text) after (omega arith) (rw words refl))
    (λ m at. omega (arith, time_within (codes "T#") text after refl some words stop m at))

-- ---- the mark of a pointer

pub pointer_stands : (after : List ℕ) → IsLongestToken (codes "P#" ++ after) Mark 2
unfolding begins_with is_word_start is_word_byte based_prefixes long_prefixes count_prefixes time_prefixes s5time_prefixes sign_words title_words marks mark_text
pointer_stands after =
    hash_longest Mark 80 (codes "#") after 2 refl (omega arith) refl
    (form_here Mark (codes "P#") after (omega arith) (mark_form (codes "P#") after refl))
    (λ m at. marks_within (ends_in any_byte (codes "P#")) (codes "P#" ++ after) 2 refl (λ entry e f. entry_ends any_byte (codes "P#") entry after e (all_allowed after) f) m at)

-- ---- local names

word_run : (word after : List ℕ) → is_word word ≡ true → stops_token after ≡ true → (n : ℕ) → IsFormAt (λ s rest. is_local_name s) (hash ∷ (word ++ after)) n → n ≤ suc (length word)
word_run [] after e stop n at = absurd (false≢true e)
word_run (b ∷ word) after e stop zero at = omega arith
word_run (b ∷ word) after e stop (suc zero) at = omega arith
word_run (b ∷ word) after e stop (suc (suc n)) at =
    let all = (and_parts (is_word_start b) (list_all is_word_byte word) e).1 in
    let inner = (and_parts (hash == hash) (is_word (take (suc n) ((b ∷ word) ++ after))) at.fits).1 in
    let run = run_longest is_word_byte (word ++ after) n (omega (arith, at.within)) (and_parts (is_word_start b) (list_all is_word_byte (take n (word ++ after))) inner).1 in
    omega (arith, run, passes_to is_word_byte word after all (stops_run after stop))

local_found : (word after : List ℕ) → is_word word ≡ true → stops_token after ≡ true → IsLongestOfForm (λ s rest. is_local_name s) (hash ∷ (word ++ after)) (suc (length word))
local_found word after e stop = record {
  fits = record {
    some = omega arith;
    within = omega (arith, length-append word after);
    fits = and_from (hash == hash) (is_word (take (length word) (word ++ after))) refl (ap is_word (take-append_seam word after) ∙ e);
  };
  longest = word_run word after e stop;
}

pub local_stands : (word after : List ℕ) → is_word word ≡ true → stops_token after ≡ true → IsLongestToken (hash ∷ (word ++ after)) Local (suc (length word))
unfolding is_word_start
local_stands word after e stop =
    local_alone (hash ∷ (word ++ after)) (Some (suc (length word)))
    (run_none is_word_start is_word_byte (hash ∷ (word ++ after)) (λ _. refl))
    (run_none is_ascii_digit is_ascii_digit (hash ∷ (word ++ after)) (λ _. refl))
    refl (local_found word after e stop)
