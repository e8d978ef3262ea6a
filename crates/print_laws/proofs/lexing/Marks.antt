-- Marks and sign words: each is the longest token before what may follow it.
use Rattle.std.proofs.Common.{◌≡◌, ◌⊎◌, ℕ, zero, suc, ◌<◌, ◌≤◌, Bool, true, false, not, ◌&&◌, ◌||◌, List, [], ◌∷◌, ◌++◌, length, take, drop, refl, sym, ◌∙◌, ap, arith, inl, inr}
use Rattle.std.specs.Prelude.{◌==◌, nat_lt}
use Rattle.std.specs.List.{list_all, list_any}
use Rattle.std.specs.Char.{is_ascii_digit, to_ascii_lowercase}
use Rattle.std.specs.Str.{bytes_eq}
use Rattle.std.proofs.lemmas.Bool.{and_parts, and_from, eqb-true, false≢true, ltb-true, not-true, or_cases}
use Rattle.std.proofs.lemmas.Bool.Decides.{nat_tests}
use Rattle.std.proofs.lemmas.List.{length-append}
use Rattle.std.proofs.lemmas.Slice.Eq.{bytes_eq-Decides}
use Rattle.std.proofs.Math.Seq.{drop-append_seam, take-append_seam}
use Rattle.stl_lexer.specs.declared.kinds.TokenKind.{TokenKind}
use Rattle.stl_lexer.specs.declared.kinds.TokenKind.TheVariants.{Word, Number, Quoted, Local, Characters, Based, NumberLiteral, TimeLiteral, Mark, SignWord, Attribute, Title}
use Rattle.stl_lexer.specs.Bytes.{hash, double_quote, single_quote, open_brace, close_brace, is_word_byte, is_word_start}
use Rattle.stl_lexer.specs.Forms as forms
use Rattle.stl_lexer.specs.Forms.{has_form, is_word, is_number, is_local_name, continues_word, based_prefixes, long_prefixes, count_prefixes, time_prefixes, s5time_prefixes, sign_words, title_words}
use Rattle.stl_lexer.specs.Longest.{HasNoneOfForm, IsFormAt, IsLongestToken, kind_rank}
use Rattle.stl_lexer.specs.Marks.{marks, mark_text}
use Rattle.stl_lexer.specs.Pieces.{stops_token}
use Rattle.stl_lexer.proofs.QuoteLemmas.{not_opened, not_quoted}
use Rattle.stl_lexer.proofs.RunLemmas.{run_none}
use Rattle.print_laws.proofs.lexing.Fronts.{Tail, IsBound, Nothing, Apart, Run, SignedRun, Line, all_allowed, all_rows, allows, any_byte, begins_word, ends_in, entry_ends, entry_never, fronts, has_tail, is_entry, is_listed, is_table, is_tail, listed_self, never, no_tail, other_front, rows_none, rows_within}

-- a byte with which only marks and sign words begin
abbrev pub opens_sign : ℕ → Bool
opens_sign b = not (is_word_byte b) && (not (b == hash) && (not (b == double_quote) && (not (b == single_quote) && not (b == open_brace))))

-- the first byte passes
abbrev pub heads : (ℕ → Bool) → List ℕ → Bool
heads p [] = false
heads p (b ∷ s) = p b

pub record OpensSign (b : ℕ) : Type 0 where
  pub word : is_word_byte b ≡ false
  pub local : b ≡ hash → ⊥
  pub quoted : b ≡ double_quote → ⊥
  pub single : b ≡ single_quote → ⊥
  pub brace : b ≡ open_brace → ⊥

opens : (b : ℕ) → opens_sign b ≡ true → OpensSign b
opens b e =
    let p = and_parts (not (is_word_byte b)) (not (b == hash) && (not (b == double_quote) && (not (b == single_quote) && not (b == open_brace)))) e in
    let q = and_parts (not (b == hash)) (not (b == double_quote) && (not (b == single_quote) && not (b == open_brace))) p.1 in
    let r = and_parts (not (b == double_quote)) (not (b == single_quote) && not (b == open_brace)) q.1 in
    let s = and_parts (not (b == single_quote)) (not (b == open_brace)) r.1 in
    record {
      word = not-true (is_word_byte b) p.0;
      local = λ is. differs b hash q.0 is;
      quoted = λ is. differs b double_quote r.0 is;
      single = λ is. differs b single_quote s.0 is;
      brace = λ is. differs b open_brace s.1 is;
    }
  where
    differs : (b c : ℕ) → not (b == c) ≡ true → b ≡ c → ⊥
    differs b c e is = grind (arith, nat_tests)

no_start : (b : ℕ) → is_word_byte b ≡ false → is_word_start b ≡ false
unfolding is_word_byte is_word_start
no_start b e = grind (arith, nat_tests)

no_digit : (b : ℕ) → is_word_byte b ≡ false → is_ascii_digit b ≡ false
unfolding is_word_byte is_word_start
no_digit b e = grind (arith, nat_tests)

-- a table whose entries begin with letters or digits lists nothing there
none_words : (k : TokenKind) (b : ℕ) (s : List ℕ) → is_word_byte b ≡ false → is_table k ≡ true → all_rows k begins_word ≡ true → HasNoneOfForm (has_form k) (b ∷ s)
none_words k b s no_ t all m at = rows_none k begins_word (b ∷ s) t all (λ entry e f. other_front entry b s no_ e f) m at

-- only marks and sign words begin with such a byte
pub sign_longest : (k : TokenKind) (b : ℕ) (s : List ℕ) (n : ℕ) → opens_sign b ≡ true → IsFormAt (has_form k) (b ∷ s) n
    → ((m : ℕ) → IsFormAt (has_form Mark) (b ∷ s) m → (m < n) ⊎ ((m ≡ n) × (8 ≤ kind_rank k)))
    → ((m : ℕ) → IsFormAt (has_form SignWord) (b ∷ s) m → (m < n) ⊎ ((m ≡ n) × (9 ≤ kind_rank k)))
    → IsLongestToken (b ∷ s) k n
unfolding has_form is_word_byte is_word_start based_prefixes long_prefixes count_prefixes time_prefixes s5time_prefixes title_words
sign_longest k b s n e fits mark sign = record { fits = fits; longest = longest } where
  o : OpensSign b
  o = opens b e

  longest : (other : TokenKind) (m : ℕ) → IsFormAt (has_form other) (b ∷ s) m → (m < n) ⊎ ((m ≡ n) × (kind_rank other ≤ kind_rank k))
  longest Word m at = absurd (run_none is_word_start is_word_byte (b ∷ s) (λ _. no_start b o.word) m at)
  longest Number m at = absurd (run_none is_ascii_digit is_ascii_digit (b ∷ s) (λ _. no_digit b o.word) m at)
  longest Quoted m at = absurd (not_quoted (b ∷ s) (not_opened double_quote double_quote true (b ∷ s) (λ _. o.quoted)) m at)
  longest Local zero at = absurd (omega (arith, at.some))
  longest Local (suc m) at = absurd (o.local (eqb-true b hash (and_parts (b == hash) (is_word (take m s)) at.fits).0))
  longest Characters m at = absurd (not_opened single_quote single_quote true (b ∷ s) (λ _. o.single) m at)
  longest Based m at = absurd (none_words Based b s o.word refl refl m at)
  longest NumberLiteral m at = absurd (none_words NumberLiteral b s o.word refl refl m at)
  longest TimeLiteral m at = absurd (none_words TimeLiteral b s o.word refl refl m at)
  longest Mark m at = mark m at
  longest SignWord m at = sign m at
  longest Attribute m at = absurd (not_opened open_brace close_brace false (b ∷ s) (λ _. o.brace) m at)
  longest Title m at = absurd (none_words Title b s o.word refl refl m at)

-- bytes that have a form where others follow them
pub form_here : (k : TokenKind) (text after : List ℕ) → 0 < length text → has_form k text after ≡ true → IsFormAt (has_form k) (text ++ after) (length text)
form_here k text after some e = record {
  some = some;
  within = omega (arith, length-append text after);
  fits = rw (take-append_seam text after, drop-append_seam text after) e;
}

drop_self : (s : List ℕ) → drop (length s) s ≡ []
drop_self [] = refl
drop_self (b ∷ s) = drop_self s

no_rest : (s : List ℕ) → (length (drop (length s) s) == 0) ≡ true
no_rest s = ap (λ (s : List ℕ). length s == 0) (drop_self s)

pub at_most : (m n a b : ℕ) → m ≤ n → a ≤ b → (m < n) ⊎ ((m ≡ n) × (a ≤ b))
at_most m n a b h r = elim (split m n h) [ inl lt ↦ inl lt | inr is ↦ inr (is, r) ] where
  split : (m n : ℕ) → m ≤ n → (m < n) ⊎ (m ≡ n)
  split m n h = grind arith

pub mark_form : (known after : List ℕ) → list_any (bytes_eq known) marks ≡ true → has_form Mark known after ≡ true
unfolding has_form forms.is_listed forms.is_entry forms.is_tail is_listed is_entry is_tail
mark_form known after own = listed_self Nothing known after marks (no_rest known) own

-- where the entries that pass end in so many bytes, so do marks
pub marks_within : (test : List ℕ → Bool) (text : List ℕ) (n : ℕ) → list_all test marks ≡ true → ((entry : List ℕ) → test entry ≡ true → fronts entry text ≡ true → length entry ≤ n) → (m : ℕ) → IsFormAt (has_form Mark) text m → m ≤ n
unfolding is_tail
marks_within test text n all h m at = rows_within Mark test text m n refl all bound at where
  bound : (tail : Tail) → has_tail Mark tail ≡ true → IsBound tail test text m n
  bound Nothing has entry e f t = omega (arith, h entry e f, no_tail entry text m at.within t)
  bound Apart has entry e f t = absurd (false≢true has)
  bound Run has entry e f t = absurd (false≢true has)
  bound SignedRun has entry e f t = absurd (false≢true has)
  bound Line has entry e f t = absurd (false≢true has)

-- and sign words
signs_within : (test : List ℕ → Bool) (text : List ℕ) (n : ℕ) → list_all test sign_words ≡ true → ((entry : List ℕ) → test entry ≡ true → fronts entry text ≡ true → length entry ≤ n) → (m : ℕ) → IsFormAt (has_form SignWord) text m → m ≤ n
unfolding is_tail
signs_within test text n all h m at = rows_within SignWord test text m n refl all bound at where
  bound : (tail : Tail) → has_tail SignWord tail ≡ true → IsBound tail test text m n
  bound Nothing has entry e f t = absurd (false≢true has)
  bound Apart has entry e f t = omega (arith, h entry e f, no_tail entry text m at.within (and_parts (length (drop (length entry) (take m text)) == 0) (not (continues_word (drop m text))) t).0)
  bound Run has entry e f t = absurd (false≢true has)
  bound SignedRun has entry e f t = absurd (false≢true has)
  bound Line has entry e f t = absurd (false≢true has)

-- a mark before bytes with which no longer one goes on
pub mark_stands : (p : ℕ → Bool) (b : ℕ) (known after : List ℕ) → opens_sign b ≡ true → list_any (bytes_eq (b ∷ known)) marks ≡ true
    → list_all (ends_in p (b ∷ known)) marks ≡ true → list_all (never p (b ∷ known)) sign_words ≡ true → allows p after ≡ true
    → IsLongestToken (b ∷ (known ++ after)) Mark (length (b ∷ known))
mark_stands p b known after first own no_longer none a =
    sign_longest Mark b (known ++ after) (length (b ∷ known)) first
    (form_here Mark (b ∷ known) after (omega arith) (mark_form (b ∷ known) after own))
    (λ m at. at_most m (length (b ∷ known)) 8 8
    (marks_within (ends_in p (b ∷ known)) (b ∷ (known ++ after)) (length (b ∷ known)) no_longer (λ entry e f. entry_ends p (b ∷ known) entry after e a f) m at) (omega arith))
    (λ m at. absurd (omega (arith, at.some, signs_within (never p (b ∷ known)) (b ∷ (known ++ after)) 0 none (λ entry e f. absurd (entry_never p (b ∷ known) entry after e a f)) m at)))

-- ---- sign words

-- an entry that isn't there, or is shorter
abbrev is_shorter : List ℕ → List ℕ → Bool
is_shorter known entry = never any_byte known entry || nat_lt (length entry) (length known)

-- no byte of a word
abbrev pub no_word : ℕ → Bool
no_word b = not (is_word_byte b)

abbrev is_sign : List ℕ → Bool
is_sign known = heads opens_sign known && (list_all (is_shorter known) marks && list_all (ends_in no_word known) sign_words)

signs : list_all is_sign sign_words ≡ true
unfolding sign_words marks mark_text is_word_byte is_word_start
signs = refl

pub among : (test : List ℕ → Bool) (known : List ℕ) (table : List (List ℕ)) → list_all test table ≡ true → list_any (bytes_eq known) table ≡ true → test known ≡ true
among test known [] all e = absurd (false≢true e)
among test known (entry ∷ table) all e =
    let parts = and_parts (test entry) (list_all test table) all in
    elim (or_cases (bytes_eq known entry) (list_any (bytes_eq known) table) e) [
      | inl here ↦ ap test ((bytes_eq-Decides known entry).0 here) ∙ parts.0
      | inr later ↦ among test known table parts.1 later
    ]

word_lower : (b : ℕ) → is_word_byte b ≡ is_word_byte (to_ascii_lowercase b)
unfolding is_word_byte is_word_start
word_lower b = grind (arith, nat_tests)

pub stops_word : (after : List ℕ) → stops_token after ≡ true → (allows no_word after ≡ true) × (not (continues_word after) ≡ true)
unfolding continues_word
stops_word [] e = (refl, refl)
stops_word (b ∷ s) e =
    let first = (and_parts (not (is_word_byte b)) (not (b == hash)) e).0 in
    (ap not (sym (word_lower b)) ∙ first, first)

sign_form : (known after : List ℕ) → not (continues_word after) ≡ true → list_any (bytes_eq known) sign_words ≡ true → has_form SignWord known after ≡ true
unfolding has_form forms.is_listed forms.is_entry forms.is_tail is_listed is_entry is_tail
sign_form known after next own = listed_self Apart known after sign_words (and_from (length (drop (length known) known) == 0) (not (continues_word after)) (no_rest known) next) own

sign_here : (known after : List ℕ) → is_sign known ≡ true → list_any (bytes_eq known) sign_words ≡ true → stops_token after ≡ true → IsLongestToken (known ++ after) SignWord (length known)
sign_here [] after e own stop = absurd (false≢true e)
sign_here (b ∷ known) after e own stop =
    let parts = and_parts (opens_sign b) (list_all (is_shorter (b ∷ known)) marks && list_all (ends_in no_word (b ∷ known)) sign_words) e in
    let tables = and_parts (list_all (is_shorter (b ∷ known)) marks) (list_all (ends_in no_word (b ∷ known)) sign_words) parts.1 in
    let next = stops_word after stop in
    sign_longest SignWord b (known ++ after) (length (b ∷ known)) parts.0
    (form_here SignWord (b ∷ known) after (omega arith) (sign_form (b ∷ known) after next.1 own))
    (λ m at. inl (omega (arith, marks_within (is_shorter (b ∷ known)) (b ∷ (known ++ after)) (length known) tables.0 shorter m at)))
    (λ m at. at_most m (length (b ∷ known)) 9 9
    (signs_within (ends_in no_word (b ∷ known)) (b ∷ (known ++ after)) (length (b ∷ known)) tables.1 (λ entry e f. entry_ends no_word (b ∷ known) entry after e next.0 f) m at) (omega arith))
  where
    shorter : (entry : List ℕ) → is_shorter (b ∷ known) entry ≡ true → fronts entry (b ∷ (known ++ after)) ≡ true → length entry ≤ length known
    shorter entry e f = elim (or_cases (never any_byte (b ∷ known) entry) (nat_lt (length entry) (length (b ∷ known))) e) [
      | inl apart ↦ absurd (entry_never any_byte (b ∷ known) entry after apart (all_allowed after) f)
      | inr less ↦ omega (arith, ltb-true (length entry) (length (b ∷ known)) less)
    ]

-- a sign word before what stops
pub sign_word_stands : (known after : List ℕ) → list_any (bytes_eq known) sign_words ≡ true → stops_token after ≡ true → IsLongestToken (known ++ after) SignWord (length known)
sign_word_stands known after own stop = sign_here known after (among is_sign known sign_words signs own) own stop
