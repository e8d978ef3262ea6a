-- Texts that begin with an entry of a table, byte by byte and without case.
use Rattle.std.proofs.Common.{◌≡◌, ℕ, suc, ◌+◌, ◌<◌, ◌≤◌, Bool, true, false, ◌&&◌, List, [], ◌∷◌, ◌++◌, length, take, drop, refl, sym, ◌∙◌, ap, arith, inl, inr}
use Rattle.std.specs.Prelude.{◌==◌}
use Rattle.std.specs.List.{list_all, list_any, prefix_len}
use Rattle.std.specs.Char.{is_ascii_digit, to_ascii_lowercase}
use Rattle.std.specs.Str.{str_eq_ignore_ascii_case}
use Rattle.std.proofs.lemmas.Bool.{and_parts, and_from, eqb-true, eq-eqb, false≢true, or_cases, or_left, or_right}
use Rattle.std.proofs.lemmas.Bool.Decides.{nat_tests}
use Rattle.stl_lexer.specs.Bytes.{hash, is_word_byte, is_word_start}
use Rattle.stl_lexer.specs.Forms.{begins_with, continues_word, is_word}
use Rattle.de_mnemonics.specs.Places.{is_word_in_list}

-- a text begins with an entry
abbrev pub fronts : List ℕ → List ℕ → Bool
fronts [] s = true
fronts (c ∷ e) [] = false
fronts (c ∷ e) (b ∷ s) = to_ascii_lowercase c == to_ascii_lowercase b && fronts e s

-- the first byte passes a test
abbrev pub heads : (ℕ → Bool) → List ℕ → Bool
heads p [] = false
heads p (b ∷ s) = p b

pub begins_fronts : (e s : List ℕ) → begins_with e s ≡ fronts e s
unfolding begins_with
begins_fronts [] s = refl
begins_fronts (c ∷ e) [] = refl
begins_fronts (c ∷ e) (b ∷ s) = ap (λ x. to_ascii_lowercase c == to_ascii_lowercase b && x) (begins_fronts e s)

pub goes_heads : (s : List ℕ) → continues_word s ≡ heads is_word_byte s
unfolding continues_word
goes_heads [] = refl
goes_heads (b ∷ s) = refl

-- ---- bytes without case

word_lower : (b : ℕ) → is_word_byte b ≡ is_word_byte (to_ascii_lowercase b)
unfolding is_word_byte is_word_start
word_lower b = grind (arith, nat_tests)

pub same_word_byte : (c b : ℕ) → to_ascii_lowercase c ≡ to_ascii_lowercase b → is_word_byte c ≡ is_word_byte b
same_word_byte c b e = word_lower c ∙ ap is_word_byte e ∙ sym (word_lower b)

start_lower : (b : ℕ) → is_word_start b ≡ is_word_start (to_ascii_lowercase b)
unfolding is_word_start
start_lower b = grind (arith, nat_tests)

pub same_start : (c b : ℕ) → to_ascii_lowercase c ≡ to_ascii_lowercase b → is_word_start c ≡ is_word_start b
same_start c b e = start_lower c ∙ ap is_word_start e ∙ sym (start_lower b)

digit_lower : (b : ℕ) → is_ascii_digit b ≡ is_ascii_digit (to_ascii_lowercase b)
digit_lower b = grind (arith, nat_tests)

pub same_digit : (c b : ℕ) → to_ascii_lowercase c ≡ to_ascii_lowercase b → is_ascii_digit c ≡ is_ascii_digit b
same_digit c b e = digit_lower c ∙ ap is_ascii_digit e ∙ sym (digit_lower b)

pub lower_hash : (b : ℕ) → to_ascii_lowercase hash ≡ to_ascii_lowercase b → b ≡ hash
lower_hash b e = grind (arith, nat_tests)

pub start_word : (b : ℕ) → is_word_start b ≡ true → is_word_byte b ≡ true
unfolding is_word_byte
start_word b e = or_left (is_word_start b) _ e

-- ---- entries

-- the first bytes are the same, and so are the others
pub first_same : (c : ℕ) (e : List ℕ) (b : ℕ) (s : List ℕ) → fronts (c ∷ e) (b ∷ s) ≡ true → (to_ascii_lowercase c ≡ to_ascii_lowercase b) × (fronts e s ≡ true)
first_same c e b s h =
    let parts = and_parts (to_ascii_lowercase c == to_ascii_lowercase b) (fronts e s) h in
    (eqb-true (to_ascii_lowercase c) (to_ascii_lowercase b) parts.0, parts.1)

pub fronts_cons : (c : ℕ) (e : List ℕ) (b : ℕ) (s : List ℕ) → to_ascii_lowercase c ≡ to_ascii_lowercase b → fronts e s ≡ true → fronts (c ∷ e) (b ∷ s) ≡ true
fronts_cons c e b s h rest = and_from (to_ascii_lowercase c == to_ascii_lowercase b) (fronts e s) (eq-eqb (to_ascii_lowercase c) (to_ascii_lowercase b) h) rest

pub alike_fronts : (a b : List ℕ) → str_eq_ignore_ascii_case a b ≡ true → (fronts a b ≡ true) × (length a ≡ length b)
alike_fronts [] [] e = (refl, refl)
alike_fronts [] (b ∷ bs) e = absurd (false≢true e)
alike_fronts (a ∷ as_) [] e = absurd (false≢true e)
alike_fronts (a ∷ as_) (b ∷ bs) e =
    let parts = and_parts (to_ascii_lowercase a == to_ascii_lowercase b) (str_eq_ignore_ascii_case as_ bs) e in
    let rest = alike_fronts as_ bs parts.1 in
    (and_from (to_ascii_lowercase a == to_ascii_lowercase b) (fronts as_ bs) parts.0 rest.0, ap suc rest.1)

pub fronts_alike : (a b : List ℕ) → fronts a b ≡ true → length a ≡ length b → str_eq_ignore_ascii_case a b ≡ true
fronts_alike [] [] e h = refl
fronts_alike [] (b ∷ bs) e h = absurd (omega (arith, h))
fronts_alike (a ∷ as_) [] e h = absurd (false≢true e)
fronts_alike (a ∷ as_) (b ∷ bs) e h =
    let parts = and_parts (to_ascii_lowercase a == to_ascii_lowercase b) (fronts as_ bs) e in
    and_from (to_ascii_lowercase a == to_ascii_lowercase b) (str_eq_ignore_ascii_case as_ bs) parts.0 (fronts_alike as_ bs parts.1 (omega (arith, h)))

pub fronts_within : (e s : List ℕ) → fronts e s ≡ true → length e ≤ length s
fronts_within [] s h = omega arith
fronts_within (c ∷ e) [] h = absurd (false≢true h)
fronts_within (c ∷ e) (b ∷ s) h = omega (arith, fronts_within e s (first_same c e b s h).1)

pub fronts_trans : (a b s : List ℕ) → fronts a b ≡ true → fronts b s ≡ true → fronts a s ≡ true
fronts_trans [] b s h g = refl
fronts_trans (x ∷ a) [] s h g = absurd (false≢true h)
fronts_trans (x ∷ a) (y ∷ b) [] h g = absurd (false≢true g)
fronts_trans (x ∷ a) (y ∷ b) (z ∷ s) h g =
    let one = first_same x a y b h in
    let two = first_same y b z s g in
    fronts_cons x a z s (one.0 ∙ two.0) (fronts_trans a b s one.1 two.1)

pub fronts_back : (a b : List ℕ) → fronts a b ≡ true → length a ≡ length b → fronts b a ≡ true
fronts_back [] [] h e = refl
fronts_back [] (b ∷ bs) h e = absurd (omega (arith, e))
fronts_back (a ∷ as_) [] h e = absurd (false≢true h)
fronts_back (a ∷ as_) (b ∷ bs) h e =
    let one = first_same a as_ b bs h in
    fronts_cons b bs a as_ (sym one.0) (fronts_back as_ bs one.1 (omega (arith, e)))

-- the shorter of two entries that a text begins with begins the longer
pub fronts_both : (a b s : List ℕ) → fronts a s ≡ true → fronts b s ≡ true → length a ≤ length b → fronts a b ≡ true
fronts_both [] b s h g le = refl
fronts_both (x ∷ a) [] s h g le = absurd (omega (arith, le))
fronts_both (x ∷ a) (y ∷ b) [] h g le = absurd (false≢true h)
fronts_both (x ∷ a) (y ∷ b) (z ∷ s) h g le =
    let one = first_same x a z s h in
    let two = first_same y b z s g in
    fronts_cons x a y b (one.0 ∙ sym two.0) (fronts_both a b s one.1 two.1 (omega (arith, le)))

-- an entry that ends in the first of two parts of a text
pub fronts_cut : (e x s : List ℕ) → length e ≤ length x → fronts e (x ++ s) ≡ fronts e x
fronts_cut [] x s h = refl
fronts_cut (c ∷ e) [] s h = absurd (omega (arith, h))
fronts_cut (c ∷ e) (b ∷ x) s h = ap (λ r. to_ascii_lowercase c == to_ascii_lowercase b && r) (fronts_cut e x s (omega (arith, h)))

-- an entry that ends behind the first part
pub fronts_over : (e x s : List ℕ) → length x ≤ length e → fronts e (x ++ s) ≡ true → (fronts (take (length x) e) x ≡ true) × (fronts (drop (length x) e) s ≡ true)
fronts_over e [] s h g = (refl, g)
fronts_over [] (b ∷ x) s h g = absurd (omega (arith, h))
fronts_over (c ∷ e) (b ∷ x) s h g =
    let one = first_same c e b (x ++ s) g in
    let rest = fronts_over e x s (omega (arith, h)) one.1 in
    (fronts_cons c (take (length x) e) b x one.0 rest.0, rest.1)

pub fronts_join : (e x s : List ℕ) → length x ≤ length e → fronts (take (length x) e) x ≡ true → fronts (drop (length x) e) s ≡ true → fronts e (x ++ s) ≡ true
fronts_join e [] s h f g = g
fronts_join [] (b ∷ x) s h f g = absurd (omega (arith, h))
fronts_join (c ∷ e) (b ∷ x) s h f g =
    let one = first_same c (take (length x) e) b x f in
    fronts_cons c e b (x ++ s) one.0 (fronts_join e x s (omega (arith, h)) one.1 g)

-- a word is like itself
pub alike_self : (w : List ℕ) → fronts w w ≡ true
alike_self [] = refl
alike_self (b ∷ w) = and_from (to_ascii_lowercase b == to_ascii_lowercase b) (fronts w w) (eq-eqb (to_ascii_lowercase b) (to_ascii_lowercase b) refl) (alike_self w)

-- ---- words

one_add : (n : ℕ) → 1 + n ≡ suc n
one_add n = omega arith

-- a word is bytes of words
pub run_words : (x : List ℕ) → is_word x ≡ true → list_all is_word_byte x ≡ true
run_words [] e = refl
run_words (b ∷ x) e =
    let parts = and_parts (is_word_start b) (list_all is_word_byte x) e in
    and_from (is_word_byte b) (list_all is_word_byte x) (start_word b parts.0) parts.1

-- bytes of an entry that a word begins with are a word's
pub word_fronts : (e w : List ℕ) → fronts e w ≡ true → list_all is_word_byte w ≡ true → list_all is_word_byte e ≡ true
word_fronts [] w h all = refl
word_fronts (c ∷ e) [] h all = absurd (false≢true h)
word_fronts (c ∷ e) (b ∷ w) h all =
    let one = first_same c e b w h in
    let parts = and_parts (is_word_byte b) (list_all is_word_byte w) all in
    and_from (is_word_byte c) (list_all is_word_byte e) (same_word_byte c b one.0 ∙ parts.0) (word_fronts e w one.1 parts.1)

-- an entry of word bytes, behind which no word goes on, is a whole word that stands there
pub whole_word : (e w later : List ℕ) → list_all is_word_byte e ≡ true → list_all is_word_byte w ≡ true → heads is_word_byte later ≡ false
    → fronts e (w ++ later) ≡ true → heads is_word_byte (drop (length e) (w ++ later)) ≡ false → (length e ≡ length w) × (fronts e w ≡ true)
whole_word [] [] later all_e all_w stops h ends = (refl, refl)
whole_word [] (b ∷ w) later all_e all_w stops h ends = absurd (false≢true (sym ends ∙ (and_parts (is_word_byte b) (list_all is_word_byte w) all_w).0))
whole_word (c ∷ e) [] [] all_e all_w stops h ends = absurd (false≢true h)
whole_word (c ∷ e) [] (b ∷ later) all_e all_w stops h ends =
    let here = (and_parts (is_word_byte c) (list_all is_word_byte e) all_e).0 in
    absurd (false≢true (sym stops ∙ sym (same_word_byte c b (first_same c e b later h).0) ∙ here))
whole_word (c ∷ e) (b ∷ w) later all_e all_w stops h ends =
    let one = first_same c e b (w ++ later) h in
    let rest = whole_word e w later (and_parts (is_word_byte c) (list_all is_word_byte e) all_e).1 (and_parts (is_word_byte b) (list_all is_word_byte w) all_w).1 stops one.1 ends in
    (ap suc rest.0, fronts_cons c e b w one.0 rest.1)

-- an entry that isn't only word bytes goes as far with them as the word that stands there
pub split_word : (e w later : List ℕ) → list_all is_word_byte w ≡ true → heads is_word_byte later ≡ false → fronts e (w ++ later) ≡ true
    → prefix_len is_word_byte e < length e → (prefix_len is_word_byte e ≡ length w) × (fronts (take (length w) e) w ≡ true) × (fronts (drop (length w) e) later ≡ true)
split_word [] w later all stops h some = absurd (omega (arith, some))
split_word (c ∷ e) [] [] all stops h some = absurd (false≢true h)
split_word (c ∷ e) [] (b ∷ later) all stops h some =
    let no : is_word_byte c ≡ false = same_word_byte c b (first_same c e b later h).0 ∙ stops in
    (rw no refl, refl, h)
split_word (c ∷ e) (b ∷ w) later all stops h some =
    let parts = and_parts (is_word_byte b) (list_all is_word_byte w) all in
    let one = first_same c e b (w ++ later) h in
    let yes_ : is_word_byte c ≡ true = same_word_byte c b one.0 ∙ parts.0 in
    let size : prefix_len is_word_byte (c ∷ e) ≡ 1 + prefix_len is_word_byte e = rw yes_ refl in
    let rest = split_word e w later parts.1 stops one.1 (omega (arith, some, size)) in
    (omega (arith, size, rest.0), fronts_cons c (take (length w) e) b w one.0 rest.1, rest.2)

-- ---- lists of words

-- words alike are in the same lists
pub among_alike : (table : List (List ℕ)) (a b : List ℕ) → fronts a b ≡ true → length a ≡ length b → is_word_in_list table b ≡ true → is_word_in_list table a ≡ true
unfolding is_word_in_list
among_alike [] a b h e g = g
among_alike (entry ∷ table) a b h e g = elim (or_cases (str_eq_ignore_ascii_case b entry) (list_any (λ entry. str_eq_ignore_ascii_case b entry) table) g) [
  | inl here ↦
      let same = alike_fronts b entry here in
      or_left (str_eq_ignore_ascii_case a entry) (list_any (λ entry. str_eq_ignore_ascii_case a entry) table) (fronts_alike a entry (fronts_trans a b entry h same.0) (e ∙ same.1))
  | inr later ↦ or_right (str_eq_ignore_ascii_case a entry) (list_any (λ entry. str_eq_ignore_ascii_case a entry) table) (among_alike table a b h e later)
]
