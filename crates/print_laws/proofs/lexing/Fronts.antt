-- Texts that begin with known bytes: which entries of a table they begin with.
use Rattle.std.proofs.Common.{◌≡◌, ℕ, zero, suc, ◌≤◌, Bool, true, false, not, ◌&&◌, ◌||◌, List, [], ◌∷◌, ◌++◌, length, take, drop, refl, sym, ◌∙◌, ap, arith, inl, inr}
use Rattle.std.specs.Prelude.{◌==◌}
use Rattle.std.specs.List.{list_all, list_any, prefix_len}
use Rattle.std.specs.Char.{to_ascii_lowercase}
use Rattle.std.specs.Str.{bytes_eq, str_eq_ignore_ascii_case}
use Rattle.std.proofs.lemmas.Bool.{and_parts, and_from, eqb-true, eq-eqb, false≢true, not-true, or_cases, or_left, or_right}
use Rattle.std.proofs.lemmas.Bool.Decides.{nat_tests}
use Rattle.std.proofs.lemmas.List.{length-drop, length-take-le}
use Rattle.std.proofs.lemmas.Slice.Eq.{bytes_eq-Decides}
use Rattle.stl_lexer.specs.declared.kinds.TokenKind.{TokenKind}
use Rattle.stl_lexer.specs.declared.kinds.TokenKind.TheVariants.{Word, Number, Quoted, Local, Characters, Based, NumberLiteral, TimeLiteral, Mark, SignWord, Attribute, Title}
use Rattle.stl_lexer.specs.Bytes.{is_line_byte, is_word_byte, is_word_start}
use Rattle.stl_lexer.specs.Forms as forms
use Rattle.stl_lexer.specs.Forms.{begins_with, behind_sign, continues_word, has_form, is_word, based_prefixes, long_prefixes, count_prefixes, time_prefixes, s5time_prefixes, sign_words, title_words}
use Rattle.stl_lexer.specs.Longest.{HasNoneOfForm, IsFormAt}
use Rattle.stl_lexer.specs.Marks.{marks}
use Rattle.stl_lexer.proofs.RunLemmas.{run_longest}

-- a text begins with an entry, byte by byte and without case
abbrev pub fronts : List ℕ → List ℕ → Bool
fronts [] s = true
fronts (c ∷ e) [] = false
fronts (c ∷ e) (b ∷ s) = to_ascii_lowercase c == to_ascii_lowercase b && fronts e s

pub begins_fronts : (e s : List ℕ) → begins_with e s ≡ fronts e s
unfolding begins_with
begins_fronts [] s = refl
begins_fronts (c ∷ e) [] = refl
begins_fronts (c ∷ e) (b ∷ s) = ap (λ x. to_ascii_lowercase c == to_ascii_lowercase b && x) (begins_fronts e s)

pub fronts_self : (e : List ℕ) → fronts e e ≡ true
fronts_self [] = refl
fronts_self (c ∷ e) = and_from (to_ascii_lowercase c == to_ascii_lowercase c) (fronts e e) (eq-eqb (to_ascii_lowercase c) (to_ascii_lowercase c) refl) (fronts_self e)

pub fronts_within : (e s : List ℕ) → fronts e s ≡ true → length e ≤ length s
fronts_within [] s h = omega arith
fronts_within (c ∷ e) [] h = absurd (false≢true h)
fronts_within (c ∷ e) (b ∷ s) h = omega (arith, fronts_within e s (and_parts (to_ascii_lowercase c == to_ascii_lowercase b) (fronts e s) h).1)

-- an entry that a text as long begins with is the text, but for case
pub fronts_whole : (e s : List ℕ) → fronts e s ≡ true → length e ≡ length s → str_eq_ignore_ascii_case e s ≡ true
fronts_whole [] [] h same = refl
fronts_whole [] (b ∷ s) h same = absurd (omega (arith, same))
fronts_whole (c ∷ e) [] h same = absurd (false≢true h)
fronts_whole (c ∷ e) (b ∷ s) h same =
    let parts = and_parts (to_ascii_lowercase c == to_ascii_lowercase b) (fronts e s) h in
    and_from (to_ascii_lowercase c == to_ascii_lowercase b) (str_eq_ignore_ascii_case e s) parts.0 (fronts_whole e s parts.1 (omega (arith, same)))

-- a text is empty, or its first byte passes, in lower case
abbrev pub allows : (ℕ → Bool) → List ℕ → Bool
allows p [] = true
allows p (b ∷ s) = p (to_ascii_lowercase b)

-- any byte may follow
abbrev pub any_byte : ℕ → Bool
any_byte b = true

pub all_allowed : (s : List ℕ) → allows any_byte s ≡ true
all_allowed [] = refl
all_allowed (b ∷ s) = refl

-- of an entry that is longer than known bytes, no text begins with it that goes on behind them with a byte that passes
abbrev pub ends_in : (ℕ → Bool) → List ℕ → List ℕ → Bool
ends_in p known [] = true
ends_in p [] (c ∷ e) = not (p (to_ascii_lowercase c))
ends_in p (b ∷ known) (c ∷ e) = not (to_ascii_lowercase c == to_ascii_lowercase b) || ends_in p known e

-- the same of an entry of any length
abbrev pub never : (ℕ → Bool) → List ℕ → List ℕ → Bool
never p known [] = false
never p [] (c ∷ e) = not (p (to_ascii_lowercase c))
never p (b ∷ known) (c ∷ e) = not (to_ascii_lowercase c == to_ascii_lowercase b) || never p known e

follows : (p : ℕ → Bool) (c : ℕ) (e after : List ℕ) → not (p (to_ascii_lowercase c)) ≡ true → allows p after ≡ true → fronts (c ∷ e) after ≡ true → ⊥
follows p c e [] h a f = false≢true f
follows p c e (b ∷ after) h a f =
    let same = eqb-true (to_ascii_lowercase c) (to_ascii_lowercase b) (and_parts (to_ascii_lowercase c == to_ascii_lowercase b) (fronts e after) f).0 in
    false≢true (sym (not-true (p (to_ascii_lowercase c)) h) ∙ ap p same ∙ a)

pub entry_ends : (p : ℕ → Bool) (known entry after : List ℕ) → ends_in p known entry ≡ true → allows p after ≡ true → fronts entry (known ++ after) ≡ true → length entry ≤ length known
entry_ends p known [] after e a f = omega arith
entry_ends p [] (c ∷ entry) after e a f = absurd (follows p c entry after e a f)
entry_ends p (b ∷ known) (c ∷ entry) after e a f =
    let parts = and_parts (to_ascii_lowercase c == to_ascii_lowercase b) (fronts entry (known ++ after)) f in
    elim (or_cases (not (to_ascii_lowercase c == to_ascii_lowercase b)) (ends_in p known entry) e) [
      | inl other ↦ absurd (false≢true (sym (not-true (to_ascii_lowercase c == to_ascii_lowercase b) other) ∙ parts.0))
      | inr more ↦ omega (arith, entry_ends p known entry after more a parts.1)
    ]

pub entry_never : (p : ℕ → Bool) (known entry after : List ℕ) → never p known entry ≡ true → allows p after ≡ true → fronts entry (known ++ after) ≡ true → ⊥
entry_never p known [] after e a f = false≢true e
entry_never p [] (c ∷ entry) after e a f = follows p c entry after e a f
entry_never p (b ∷ known) (c ∷ entry) after e a f =
    let parts = and_parts (to_ascii_lowercase c == to_ascii_lowercase b) (fronts entry (known ++ after)) f in
    elim (or_cases (not (to_ascii_lowercase c == to_ascii_lowercase b)) (never p known entry) e) [
      | inl other ↦ false≢true (sym (not-true (to_ascii_lowercase c == to_ascii_lowercase b) other) ∙ parts.0)
      | inr more ↦ entry_never p known entry after more a parts.1
    ]

-- ---- tables

-- what belongs to a token behind the entry of a table
pub data Tail : Type 0 where
  Nothing : Tail
  Apart : Tail
  Run : Tail
  SignedRun : Tail
  Line : Tail

-- the lexer's word for it
unfoldable pub is_tail : Tail → List ℕ → List ℕ → Bool
is_tail Nothing s after = length s == 0
is_tail Apart s after = length s == 0 && not (continues_word after)
is_tail Run s after = list_all is_word_byte s
is_tail SignedRun s after = list_all is_word_byte (behind_sign s)
is_tail Line s after = list_all is_line_byte s && not (continues_word (s ++ after))

-- an entry with its tail
unfoldable pub is_entry : Tail → List ℕ → List ℕ → List ℕ → Bool
is_entry tail entry s after = begins_with entry s && is_tail tail (drop (length entry) s) after

-- one of the entries of a table, with its tail
unfoldable pub is_listed : Tail → List (List ℕ) → List ℕ → List ℕ → Bool
is_listed tail table s after = list_any (λ entry. is_entry tail entry s after) table

-- a kind whose tokens are entries of tables with their tails
abbrev pub is_table : TokenKind → Bool
is_table Based = true
is_table NumberLiteral = true
is_table TimeLiteral = true
is_table Mark = true
is_table SignWord = true
is_table Title = true
is_table _ = false

-- such a kind has entries with this tail
abbrev pub has_tail : TokenKind → Tail → Bool
has_tail Based Run = true
has_tail NumberLiteral SignedRun = true
has_tail NumberLiteral Run = true
has_tail TimeLiteral SignedRun = true
has_tail TimeLiteral Run = true
has_tail Mark Nothing = true
has_tail SignWord Apart = true
has_tail Title Line = true
has_tail _ _ = false

-- each entry of a kind's tables passes a test
abbrev pub all_rows : TokenKind → (List ℕ → Bool) → Bool
all_rows Based test = list_all test based_prefixes
all_rows NumberLiteral test = list_all test long_prefixes && list_all test count_prefixes
all_rows TimeLiteral test = list_all test time_prefixes && list_all test s5time_prefixes
all_rows Mark test = list_all test marks
all_rows SignWord test = list_all test sign_words
all_rows Title test = list_all test title_words
all_rows _ test = true

-- the first m bytes of a text, an entry of a table with its tail, are no more than n
abbrev pub IsBound : Tail → (List ℕ → Bool) → List ℕ → (m n : ℕ) → Type 0
IsBound tail test text m n =
    (entry : List ℕ) → test entry ≡ true → fronts entry text ≡ true
    → is_tail tail (drop (length entry) (take m text)) (drop m text) ≡ true → m ≤ n

-- the front of a text begins with what it begins with
pub fronts_take : (entry : List ℕ) (m : ℕ) (text : List ℕ) → fronts entry (take m text) ≡ true → fronts entry text ≡ true
fronts_take [] m text e = refl
fronts_take (c ∷ entry) zero text e = absurd (false≢true e)
fronts_take (c ∷ entry) (suc m) [] e = absurd (false≢true e)
fronts_take (c ∷ entry) (suc m) (b ∷ text) e =
    let parts = and_parts (to_ascii_lowercase c == to_ascii_lowercase b) (fronts entry (take m text)) e in
    and_from (to_ascii_lowercase c == to_ascii_lowercase b) (fronts entry text) parts.0 (fronts_take entry m text parts.1)

listed_within : (tail : Tail) (test : List ℕ → Bool) (table : List (List ℕ)) (text : List ℕ) (m n : ℕ)
    → IsBound tail test text m n → list_all test table ≡ true → is_listed tail table (take m text) (drop m text) ≡ true → m ≤ n
unfolding is_listed is_entry
listed_within tail test [] text m n h all e = absurd (false≢true e)
listed_within tail test (entry ∷ table) text m n h all e =
    let parts = and_parts (test entry) (list_all test table) all in
    elim (or_cases (is_entry tail entry (take m text) (drop m text)) (list_any (λ entry. is_entry tail entry (take m text) (drop m text)) table) e) [
      | inl here ↦
          let both = and_parts (begins_with entry (take m text)) (is_tail tail (drop (length entry) (take m text)) (drop m text)) here in
          h entry parts.0 (fronts_take entry m text (sym (begins_fronts entry (take m text)) ∙ both.0)) both.1
      | inr later ↦ listed_within tail test table text m n h parts.1 later
    ]

two_within : (one two : Tail) (test : List ℕ → Bool) (table other : List (List ℕ)) (text : List ℕ) (m n : ℕ)
    → IsBound one test text m n → IsBound two test text m n → (list_all test table && list_all test other) ≡ true
    → (is_listed one table (take m text) (drop m text) || is_listed two other (take m text) (drop m text)) ≡ true → m ≤ n
two_within one two test table other text m n h g all e =
    let parts = and_parts (list_all test table) (list_all test other) all in
    elim (or_cases (is_listed one table (take m text) (drop m text)) (is_listed two other (take m text) (drop m text)) e) [
      | inl a ↦ listed_within one test table text m n h parts.0 a
      | inr b ↦ listed_within two test other text m n g parts.1 b
    ]

-- what the tables of a kind list at the front of a text is no longer than each of their entries that pass, with their tails
pub rows_within : (k : TokenKind) (test : List ℕ → Bool) (text : List ℕ) (m n : ℕ) → is_table k ≡ true → all_rows k test ≡ true
    → ((tail : Tail) → has_tail k tail ≡ true → IsBound tail test text m n) → IsFormAt (has_form k) text m → m ≤ n
unfolding has_form forms.is_listed forms.is_entry forms.is_tail is_listed is_entry is_tail
rows_within Word test text m n t all h at = absurd (false≢true t)
rows_within Number test text m n t all h at = absurd (false≢true t)
rows_within Quoted test text m n t all h at = absurd (false≢true t)
rows_within Local test text m n t all h at = absurd (false≢true t)
rows_within Characters test text m n t all h at = absurd (false≢true t)
rows_within Based test text m n t all h at = listed_within Run test based_prefixes text m n (h Run refl) all at.fits
rows_within NumberLiteral test text m n t all h at = two_within SignedRun Run test long_prefixes count_prefixes text m n (h SignedRun refl) (h Run refl) all at.fits
rows_within TimeLiteral test text m n t all h at = two_within SignedRun Run test time_prefixes s5time_prefixes text m n (h SignedRun refl) (h Run refl) all at.fits
rows_within Mark test text m n t all h at = listed_within Nothing test marks text m n (h Nothing refl) all at.fits
rows_within SignWord test text m n t all h at = listed_within Apart test sign_words text m n (h Apart refl) all at.fits
rows_within Attribute test text m n t all h at = absurd (false≢true t)
rows_within Title test text m n t all h at = listed_within Line test title_words text m n (h Line refl) all at.fits

-- they list nothing where the text begins with no entry that passes
pub rows_none : (k : TokenKind) (test : List ℕ → Bool) (text : List ℕ) → is_table k ≡ true → all_rows k test ≡ true
    → ((entry : List ℕ) → test entry ≡ true → fronts entry text ≡ true → ⊥) → HasNoneOfForm (has_form k) text
rows_none k test text t all h m at = absurd (omega (arith, at.some, rows_within k test text m 0 t all (λ tail has entry e f ends. absurd (h entry e f)) at))

-- no bytes belong to an entry without tail
pub no_tail : (entry text : List ℕ) (m : ℕ) → m ≤ length text → (length (drop (length entry) (take m text)) == 0) ≡ true → m ≤ length entry
no_tail entry text m h e =
    omega (arith, eqb-true (length (drop (length entry) (take m text))) 0 e, length-drop (length entry) (take m text), length-take-le m text h)

-- an entry of a table is listed by itself
pub listed_self : (tail : Tail) (known rest : List ℕ) (table : List (List ℕ)) → is_tail tail (drop (length known) known) rest ≡ true → list_any (bytes_eq known) table ≡ true → is_listed tail table known rest ≡ true
unfolding is_listed is_entry
listed_self tail known rest [] t e = absurd (false≢true e)
listed_self tail known rest (entry ∷ table) t e = elim (or_cases (bytes_eq known entry) (list_any (bytes_eq known) table) e) [
  | inl here ↦
      let same : known ≡ entry = (bytes_eq-Decides known entry).0 here in
      or_left (begins_with entry known && is_tail tail (drop (length entry) known) rest) (list_any (λ entry. is_entry tail entry known rest) table)
      (rw (sym same) (and_from (begins_with known known) (is_tail tail (drop (length known) known) rest) (begins_fronts known known ∙ fronts_self known) t))
  | inr later ↦ or_right (begins_with entry known && is_tail tail (drop (length entry) known) rest) (list_any (λ entry. is_entry tail entry known rest) table) (listed_self tail known rest table t later)
]

-- ---- words

-- a word at the front goes no further than word bytes do
pub word_within : (b : ℕ) (s : List ℕ) (m : ℕ) → IsFormAt (λ t after. is_word t) (b ∷ s) m → m ≤ suc (prefix_len is_word_byte s)
word_within b s zero at = omega arith
word_within b s (suc m) at = omega (arith, run_longest is_word_byte s m (omega (arith, at.within)) (and_parts (is_word_start b) (list_all is_word_byte (take m s)) at.fits).1)

word_lower : (b : ℕ) → is_word_byte b ≡ is_word_byte (to_ascii_lowercase b)
unfolding is_word_byte is_word_start
word_lower b = grind (arith, nat_tests)

-- an entry that begins with a letter, a digit or `_`
abbrev pub begins_word : List ℕ → Bool
begins_word [] = false
begins_word (c ∷ e) = is_word_byte c

-- a text that begins with another byte doesn't begin with it
pub other_front : (entry : List ℕ) (b : ℕ) (s : List ℕ) → is_word_byte b ≡ false → begins_word entry ≡ true → fronts entry (b ∷ s) ≡ true → ⊥
other_front [] b s no_ e f = false≢true e
other_front (c ∷ entry) b s no_ e f =
    let same = eqb-true (to_ascii_lowercase c) (to_ascii_lowercase b) (and_parts (to_ascii_lowercase c == to_ascii_lowercase b) (fronts entry s) f).0 in
    false≢true (sym no_ ∙ word_lower b ∙ ap is_word_byte (sym same) ∙ sym (word_lower c) ∙ e)
