-- Digits: what they write, and that they break no rule.
use Rattle.std.proofs.Common.{◌≡◌, ◌≤◌, ◌<◌, ◌+◌, ◌-◌, ◌*◌, ◌/◌, ◌%◌, ◌^◌, ℕ, suc, Bool, true, false, not, ◌&&◌, List, [], ◌∷◌, ◌++◌, length, take, drop, get_or, Some, None, refl, sym, ◌∙◌, ap, arith, decimal, fold}
use Rattle.std.specs.Prelude.{◌==◌, ◌||◌, nat_lt, if◌then◌else◌, codes, ℤ, pos, negsuc, count_by}
use Rattle.std.specs.Fmt.{signed_decimal}
use Rattle.std.specs.Char.{is_ascii_alphabetic, is_ascii_digit, is_digit}
use Rattle.std.specs.List.{list_all, prefix_len, slice_split, suffix_len}
use Rattle.std.proofs.lemmas.Fmt.{decimal_by_steps}
use Rattle.std.proofs.lemmas.Bool.{agree_below_at, and_parts, and_from, le-ltb, lt-ltb, not-true, not_from_true}
use Rattle.std.proofs.lemmas.Bool.Decides.{nat_tests}
use Rattle.std.proofs.lemmas.List.{append-nil, get_or_append_left, get_or-append_right, length-append}
use Rattle.std.proofs.lemmas.List.Folds.{list_all-append}
use Rattle.std.proofs.lemmas.List.Sums.{AllPass-from_list_all, count_by-le-length, suffix_len_is}
use Rattle.std.proofs.lemmas.List.Splits.{slice_split_none}
use Rattle.std.proofs.Math.Seq.{drop-append_seam, take-append_seam}
use native.Mathlib.Nat.{mul-one}
use Rattle.plc_base.specs.Decimal.{decimal_value}
use Rattle.stl_ast.specs.Literals.{IsLong}
use Rattle.stl_lexer.specs.Bytes.{hash, minus_sign, plus_sign, underscore, is_sign, is_word_byte, is_word_start}
use Rattle.stl_lexer.specs.Forms.{behind_sign, first_letter, is_number}
use Rattle.stl_lexer.specs.Limits.{greatest_long, greatest_number}
use Rattle.stl_lexer.specs.Rules.{are_digits_of_base, are_grouped_digits, base_of, based_rule, behind_prefix, value_of_digits as decimal_of, digit_count, most_digits, decimal_rule, is_negative, number_rule, time_rule, value_rule}
use Rattle.stl_lexer.specs.TimeLiteral.{behind_digits, behind_part, is_part, milliseconds_of_unit, letters_of_unit, milliseconds, part_digits, part_letters, time_units}

pub both_pass : (p : ℕ → Bool) (a b : List ℕ) → list_all p a ≡ true → list_all p b ≡ true → list_all p (a ++ b) ≡ true
both_pass p a b x y = list_all-append p a b ∙ and_from (list_all p a) (list_all p b) x y

pub all_weaker : (p q : ℕ → Bool) → ((b : ℕ) → p b ≡ true → q b ≡ true) → (s : List ℕ) → list_all p s ≡ true → list_all q s ≡ true
all_weaker p q h [] e = refl
all_weaker p q h (b ∷ s) e =
    let parts = and_parts (p b) (list_all p s) e in
    and_from (q b) (list_all q s) (h b parts.0) (all_weaker p q h s parts.1)

-- ---- decimal digits

-- a text of digits, not empty, with its value
pub record IsNumeral (n : ℕ) (text : List ℕ) : Type 0 where
  pub digits : list_all is_ascii_digit text ≡ true
  pub some : 0 < length text
  pub value : decimal_value text ≡ n

value-push : (ds : List ℕ) (c : ℕ) → decimal_value (ds ++ c ∷ []) ≡ 10 * decimal_value ds + (c - 48)
unfolding decimal_value
value-push ds c = from 0 ds where
  from : (a : ℕ) (ds : List ℕ) → fold (λ n digit. 10 * n + (digit - 48)) a (ds ++ c ∷ []) ≡ 10 * fold (λ n digit. 10 * n + (digit - 48)) a ds + (c - 48)
  from a [] = refl
  from a (d ∷ ds) = from (10 * a + (d - 48)) ds

value-one : (c : ℕ) → decimal_value (c ∷ []) ≡ c - 48
unfolding decimal_value
value-one c = omega arith

digit-is : (d : ℕ) → d < 10 → is_ascii_digit (48 + d) ≡ true
digit-is d small = grind (arith, nat_tests)

one-digit : (d : ℕ) → d < 10 → list_all is_ascii_digit ((48 + d) ∷ []) ≡ true
one-digit d small = and_from (is_ascii_digit (48 + d)) true (digit-is d small) refl

pub numeral : (n : ℕ) → n < 2 ^ 64 → IsNumeral n (decimal n)
numeral n small = decimal_by_steps IsNumeral one more n small where
  one : (n : ℕ) → n < 10 → IsNumeral n ((48 + n) ∷ [])
  one n h = record { digits = one-digit n h; some = omega arith; value = omega (arith, value-one (48 + n)) }

  more : (n : ℕ) (ds : List ℕ) → 10 ≤ n → IsNumeral (n / 10) ds → IsNumeral n (ds ++ (48 + n % 10) ∷ [])
  more n ds h k = record {
    digits = both_pass is_ascii_digit ds ((48 + n % 10) ∷ []) k.digits (one-digit (n % 10) (omega arith));
    some = omega (arith, length-append ds ((48 + n % 10) ∷ []));
    value = omega (arith, value-push ds (48 + n % 10), k.value);
  }

-- digits are a number
pub number_is : (text : List ℕ) → list_all is_ascii_digit text ≡ true → 0 < length text → is_number text ≡ true
number_is [] e some = absurd (omega (arith, some))
number_is (b ∷ s) e some = e

pub digit_word : (b : ℕ) → is_ascii_digit b ≡ true → is_word_byte b ≡ true
unfolding is_word_byte is_word_start
digit_word b e = grind (arith, nat_tests)

pub digits_words : (text : List ℕ) → list_all is_ascii_digit text ≡ true → list_all is_word_byte text ≡ true
digits_words text e = all_weaker is_ascii_digit is_word_byte digit_word text e

-- a value within its bound breaks no rule
value_right : (greatest n : ℕ) → n ≤ greatest → value_rule greatest (Some n) ≡ None
unfolding value_rule
value_right greatest n h = rw (le-ltb greatest n h) refl

-- a decimal number within its bound
pub number_right : (n : ℕ) (minus : Bool) → n ≤ greatest_number minus → n < 2 ^ 64 → decimal_rule (decimal n) minus ≡ None
unfolding decimal_rule
number_right n minus h small = rw ((numeral n small).value) (value_right (greatest_number minus) n h)

-- ---- what stands behind a prefix

not_hash : (b : ℕ) → is_word_byte b ≡ true → not (b == hash) ≡ true
unfolding is_word_byte is_word_start
not_hash b e = grind (arith, nat_tests)

abbrev pub no_hash : ℕ → Bool
no_hash b = not (b == hash)

pub words_no_hash : (text : List ℕ) → list_all is_word_byte text ≡ true → list_all no_hash text ≡ true
words_no_hash text e = all_weaker is_word_byte no_hash not_hash text e

pub behind_known : (known body : List ℕ) → 0 < length known → (get_or known (length known - 1) 0 == hash) ≡ true → list_all no_hash body ≡ true → behind_prefix (known ++ body) ≡ body
unfolding behind_prefix
behind_known known body some ends none =
    let size = length-append known body in
    let run : suffix_len no_hash (known ++ body) ≡ length (known ++ body) - length known =
    suffix_len_is no_hash (known ++ body) (length known) 0 (omega (arith, size)) later (λ h. last) in
    let start : length (known ++ body) - suffix_len no_hash (known ++ body) ≡ length known = omega (arith, run, size) in
    ap (λ n. drop n (known ++ body)) start ∙ drop-append_seam known body
  where
    later : (k : ℕ) → length known ≤ k → k < length (known ++ body) → no_hash (get_or (known ++ body) k 0) ≡ true
    later k low high =
        ap no_hash (get_or-append_right known body (length known) k 0 refl low)
        ∙ AllPass-from_list_all no_hash body none (k - length known) 0 (omega (arith, low, high, length-append known body))

    last : no_hash (get_or (known ++ body) (length known - 1) 0) ≡ false
    last = ap no_hash (get_or_append_left known body 0 (length known - 1) (omega (arith, some))) ∙ not_from_true (get_or known (length known - 1) 0 == hash) ends

-- ---- numbers with a sign

-- a text that begins with a digit begins with no sign
pub front_plain : (text more : List ℕ) → list_all is_ascii_digit text ≡ true → 0 < length text → (is_negative (text ++ more) ≡ false) × (behind_sign (text ++ more) ≡ text ++ more)
unfolding is_negative behind_sign is_sign
front_plain [] more e some = absurd (omega (arith, some))
front_plain (b ∷ s) more e some =
    let first = no_sign b (and_parts (is_ascii_digit b) (list_all is_ascii_digit s) e).0 in
    (first.0, rw (first.1) refl)
  where
    no_sign : (b : ℕ) → is_ascii_digit b ≡ true → ((b == minus_sign) ≡ false) × ((b == plus_sign || b == minus_sign) ≡ false)
    no_sign b e = (grind (arith, nat_tests), grind (arith, nat_tests))

pub digits_plain : (text : List ℕ) → list_all is_ascii_digit text ≡ true → 0 < length text → (is_negative text ≡ false) × (behind_sign text ≡ text)
digits_plain text e some =
    let all = append-nil text in
    let front = front_plain text [] e some in
    (ap is_negative (sym all) ∙ front.0, ap behind_sign (sym all) ∙ front.1 ∙ all)

long_value : (n : ℕ) (negative : Bool) → n ≤ greatest_long negative → n < 2 ^ 64 → value_rule (greatest_long negative) (decimal_of (decimal n)) ≡ None
unfolding decimal_of
long_value n negative h small =
    let d = numeral n small in
    rw (number_is (decimal n) d.digits d.some, d.value) (value_right (greatest_long negative) n h)

-- a number of 32 bits with its sign
pub long_right : (v : ℤ) → IsLong v → number_rule (codes "L#" ++ signed_decimal v) ≡ None
unfolding number_rule first_letter greatest_long is_negative behind_sign is_sign
long_right (pos n) h =
    let d = numeral n (omega (arith, h)) in
    let behind = behind_known (codes "L#") (decimal n) (omega arith) refl (words_no_hash (decimal n) (digits_words (decimal n) d.digits)) in
    let plain = digits_plain (decimal n) d.digits d.some in
    rw (behind, plain.0, plain.1) (long_value n false (omega (arith, h)) (omega (arith, h)))
long_right (negsuc n) h =
    let d = numeral (suc n) (omega (arith, h)) in
    let behind = behind_known (codes "L#") (minus_sign ∷ decimal (suc n)) (omega arith) refl (words_no_hash (decimal (suc n)) (digits_words (decimal (suc n)) d.digits)) in
    rw behind (long_value (suc n) true (omega (arith, h)) (omega (arith, h)))

-- ---- times

-- bytes that pass, up to one that doesn't
pub passes_to : (p : ℕ → Bool) (text after : List ℕ) → list_all p text ≡ true → prefix_len p after ≡ 0 → prefix_len p (text ++ after) ≡ length text
passes_to p [] after e h = h
passes_to p (b ∷ text) after e h =
    let parts = and_parts (p b) (list_all p text) e in
    rw (parts.0) (omega (arith, passes_to p text after parts.1 h))

part_is : (text digits : List ℕ) (n : ℕ) → part_digits text ≡ digits → part_letters text ≡ codes "MS" → behind_part text ≡ [] → 0 < length digits → decimal_value digits ≡ n → milliseconds time_units text ≡ Some n
unfolding time_units milliseconds is_part letters_of_unit milliseconds_of_unit
part_is text digits n first unit rest some value =
    rw (first, unit, rest, lt-ltb 0 (length digits) some, value) (ap (λ (k : ℕ). Some k) (mul-one n))

time_of : (n : ℕ) → n < 2 ^ 64 → milliseconds time_units (decimal n ++ codes "MS") ≡ Some n
time_of n small =
    let d = numeral n small in
    let size : prefix_len is_ascii_digit (decimal n ++ codes "MS") ≡ length (decimal n) = passes_to is_ascii_digit (decimal n) (codes "MS") d.digits refl in
    let first : part_digits (decimal n ++ codes "MS") ≡ decimal n = ap (λ k. take k (decimal n ++ codes "MS")) size ∙ take-append_seam (decimal n) (codes "MS") in
    let rest : behind_digits (decimal n ++ codes "MS") ≡ codes "MS" = ap (λ k. drop k (decimal n ++ codes "MS")) size ∙ drop-append_seam (decimal n) (codes "MS") in
    part_is (decimal n ++ codes "MS") (decimal n) n first (ap (λ (s : List ℕ). take (prefix_len is_ascii_alphabetic s) s) rest) (ap (λ (s : List ℕ). drop (prefix_len is_ascii_alphabetic s) s) rest) d.some d.value

time_value : (n : ℕ) (negative : Bool) → n ≤ greatest_long negative → n < 2 ^ 64 → value_rule (greatest_long negative) (milliseconds time_units (decimal n ++ codes "MS")) ≡ None
time_value n negative h small = rw (time_of n small) (value_right (greatest_long negative) n h)

unit_words : list_all no_hash (codes "MS") ≡ true
unit_words = refl

pub time_right : (v : ℤ) → IsLong v → time_rule (codes "T#" ++ (signed_decimal v ++ codes "MS")) ≡ None
unfolding time_rule first_letter greatest_long is_negative behind_sign is_sign
time_right (pos n) h =
    let d = numeral n (omega (arith, h)) in
    let behind = behind_known (codes "T#") (decimal n ++ codes "MS") (omega arith) refl (both_pass no_hash (decimal n) (codes "MS") (words_no_hash (decimal n) (digits_words (decimal n) d.digits)) unit_words) in
    let plain = front_plain (decimal n) (codes "MS") d.digits d.some in
    rw (behind, plain.0) (time_value n false (omega (arith, h)) (omega (arith, h)))
time_right (negsuc n) h =
    let d = numeral (suc n) (omega (arith, h)) in
    let behind = behind_known (codes "T#") (minus_sign ∷ (decimal (suc n) ++ codes "MS")) (omega arith) refl (both_pass no_hash (decimal (suc n)) (codes "MS") (words_no_hash (decimal (suc n)) (digits_words (decimal (suc n)) d.digits)) unit_words) in
    rw behind (time_value (suc n) true (omega (arith, h)) (omega (arith, h)))

-- ---- hexadecimal digits

-- a digit as it is printed
abbrev pub hex_glyph : ℕ → ℕ
hex_glyph n = if nat_lt n 10 then n + 48 else n + 55

abbrev pub is_hex : ℕ → Bool
is_hex b = is_digit b 16 && (is_word_byte b && not (b == underscore))

pub hex_digit : (d : ℕ) → d < 16 → is_hex (hex_glyph d) ≡ true
unfolding is_word_byte is_word_start
hex_digit d h = agree_below_at (λ d. is_hex (hex_glyph d)) (λ d. true) 16 d refl h

pub hex_word : (b : ℕ) → is_hex b ≡ true → is_word_byte b ≡ true
hex_word b e = (and_parts (is_word_byte b) (not (b == underscore)) (and_parts (is_digit b 16) (is_word_byte b && not (b == underscore)) e).1).0

hex_plain : (b : ℕ) → is_hex b ≡ true → not (b == underscore) ≡ true
hex_plain b e = (and_parts (is_word_byte b) (not (b == underscore)) (and_parts (is_digit b 16) (is_word_byte b && not (b == underscore)) e).1).1

hex_value : (b : ℕ) → is_hex b ≡ true → is_digit b 16 ≡ true
hex_value b e = (and_parts (is_digit b 16) (is_word_byte b && not (b == underscore)) e).0

hex_is_grouped : (text : List ℕ) → list_all is_hex text ≡ true → 0 < length text → are_grouped_digits 16 text ≡ true
unfolding are_grouped_digits are_digits_of_base
hex_is_grouped text e some =
    let whole : slice_split (λ b. b == underscore) text ≡ text ∷ [] =
    slice_split_none (λ b. b == underscore) text (λ i d h. not-true (get_or text i d == underscore) (AllPass-from_list_all (λ b. not (b == underscore)) text (all_weaker is_hex (λ b. not (b == underscore)) hex_plain text e) i d h)) in
    rw (whole, lt-ltb 0 (length text) some, all_weaker is_hex (λ b. is_digit b 16) hex_value text e) refl

-- a hexadecimal constant with as many digits as its prefix allows
pub based_right : (prefix text : List ℕ) (most : ℕ) → list_all is_hex text ≡ true → 0 < length text → length text ≤ most → 0 < length prefix → (get_or prefix (length prefix - 1) 0 == hash) ≡ true
    → base_of (prefix ++ text) ≡ 16 → most_digits (prefix ++ text) ≡ most → based_rule (prefix ++ text) ≡ None
unfolding based_rule digit_count
based_right prefix text most e some short begun ends base limit =
    let behind = behind_known prefix text begun ends (words_no_hash text (all_weaker is_hex is_word_byte hex_word text e)) in
    rw (behind, base, limit, hex_is_grouped text e some, le-ltb most (count_by (λ b. not (b == underscore)) text) (omega (arith, count_by-le-length (λ b. not (b == underscore)) text, short))) refl
