-- Constants that are printed are read.
use Rattle.std.proofs.Common.{◌≡◌, ◌≤◌, ◌<◌, ◌+◌, ◌-◌, ◌*◌, ◌/◌, ◌%◌, ◌^◌, ℕ, zero, suc, Bool, true, false, List, [], ◌∷◌, ◌++◌, length, drop, take, get_or, Some, None, ℤ, pos, negsuc, refl, ◌∙◌, ap, arith, decimal}
use Rattle.std.specs.Prelude.{◌==◌, nat_lt, nat_le, ◌&&◌, not, if◌then◌else◌, codes}
use Rattle.std.specs.Char.{digit_value, is_ascii_digit}
use Rattle.std.specs.Fmt.{signed_decimal}
use Rattle.std.specs.List.{list_all, prefix_len, suffix_len}
use Rattle.std.specs.Option.{option_and_then}
use Rattle.std.proofs.Math.Nat.{pow-succ'}
use Rattle.std.proofs.lemmas.Bool.{and_parts, and_from}
use Rattle.std.proofs.lemmas.Bool.Decides.{nat_tests}
use Rattle.std.proofs.lemmas.List.Sums.{suffix_len_is}
use Rattle.plc_base.specs.Decimal.{decimal_value, decimal_up_to}
use Rattle.stl_lexer.specs.Bytes.{hash, minus_sign, plus_sign, underscore}
use Rattle.stl_lexer.specs.Forms.{first_letter}
use Rattle.stl_lexer.specs.Limits.{greatest_long}
use Rattle.stl_lexer.specs.Rules.{behind_prefix, value_up_to}
use Rattle.stl_lexer.specs.TimeLiteral.{is_part, milliseconds_of_unit, letters_of_unit, milliseconds, time_units}
use Rattle.stl_ast.specs.Literals.{IsLong}
use Rattle.stl_ast.specs.declared.literals.Literal.TheVariants as literal
use Rattle.stl_parser.specs.Values.{based_literal, based_value, duration_literal, long_or_count, long_value, time_value, value_from}
use Rattle.stl_print.specs.Digits.{digit_character, digits_in_base}
use Rattle.print_laws.proofs.parsing.Numbers.{IsNumeral, minus, number_read, numeral}

-- ---- behind a prefix

abbrev no_hash : ℕ → Bool
no_hash b = not (b == hash)

passes_at : (p : ℕ → Bool) (s : List ℕ) (k : ℕ) → list_all p s ≡ true → k < length s → p (get_or s k 0) ≡ true
passes_at p [] k all h = absurd (omega arith)
passes_at p (b ∷ s) zero all h = (and_parts (p b) (list_all p s) all).0
passes_at p (b ∷ s) (suc k) all h = passes_at p s k (and_parts (p b) (list_all p s) all).1 (omega arith)

behind_at : (front s : List ℕ) (k : ℕ) → get_or (front ++ s) (length front + k) 0 ≡ get_or s k 0
behind_at [] s k = let e : 0 + k ≡ k = omega arith in ap (λ (n : ℕ). get_or s n 0) e
behind_at (b ∷ front) s k =
    let e : suc (length front) + k ≡ suc (length front + k) = omega arith in
    ap (λ (n : ℕ). get_or (b ∷ (front ++ s)) n 0) e ∙ behind_at front s k

drop_front : (front s : List ℕ) → drop (length front) (front ++ s) ≡ s
drop_front [] s = refl
drop_front (b ∷ front) s = drop_front front s

long_front : (front s : List ℕ) → length (front ++ s) ≡ length front + length s
long_front [] s = omega arith
long_front (b ∷ front) s = omega (arith, long_front front s)

-- what stands behind the last `#`, where there is none in it
pub behind_hash : (front s : List ℕ) → list_all no_hash s ≡ true → behind_prefix (front ++ hash ∷ s) ≡ s
unfolding behind_prefix
behind_hash front s all = ap (λ n. drop (length whole - n) whole) len ∙ ap (λ n. drop n whole) back ∙ last
  where
    whole : List ℕ
    whole = front ++ hash ∷ s

    long : length whole ≡ length front + 1 + length s
    long = omega (arith, long_front front (hash ∷ s))

    at : (k : ℕ) → get_or whole (length front + k) 0 ≡ get_or (hash ∷ s) k 0
    at k = behind_at front (hash ∷ s) k

    inside : (k : ℕ) → length front + 1 ≤ k → k < length whole → no_hash (get_or whole k 0) ≡ true
    inside k from below =
        let j : k ≡ length front + suc (k - length front - 1) = omega arith in
        ap no_hash (ap (λ n. get_or whole n 0) j ∙ at (suc (k - length front - 1)))
        ∙ passes_at no_hash s (k - length front - 1) all (omega (arith, long))

    before : 0 < length front + 1 → no_hash (get_or whole (length front + 1 - 1) 0) ≡ false
    before h =
        let j : length front + 1 - 1 ≡ length front + 0 = omega arith in
        ap no_hash (ap (λ n. get_or whole n 0) j ∙ at 0)

    len : suffix_len no_hash whole ≡ length whole - (length front + 1)
    len = suffix_len_is no_hash whole (length front + 1) 0 (omega (arith, long)) inside before

    back : length whole - (length whole - (length front + 1)) ≡ length (front ++ hash ∷ [])
    back = omega (arith, long, long_front front (hash ∷ []))

    last : drop (length (front ++ hash ∷ [])) whole ≡ s
    last = ap (λ l. drop (length (front ++ hash ∷ [])) l) (joined front) ∙ drop_front (front ++ hash ∷ []) s
      where
        joined : (front : List ℕ) → front ++ hash ∷ s ≡ (front ++ hash ∷ []) ++ s
        joined [] = refl
        joined (b ∷ front) = ap (λ l. b ∷ l) (joined front)

-- ---- digits of a base

value_joined : (greatest base n : ℕ) (s t : List ℕ)
    → value_from greatest base n (s ++ t) ≡ option_and_then (λ m. value_from greatest base m t) (value_from greatest base n s)
unfolding value_from
value_joined greatest base n [] t = refl
value_joined greatest base n (b ∷ s) t =
    by (b == underscore) (nat_lt (digit_value b) base && nat_le (base * n + digit_value b) greatest)
    (value_joined greatest base n s t) (value_joined greatest base (base * n + digit_value b) s t)
  where
    next : ℕ
    next = base * n + digit_value b

    by : (u v : Bool)
        → value_from greatest base n (s ++ t) ≡ option_and_then (λ m. value_from greatest base m t) (value_from greatest base n s)
        → value_from greatest base next (s ++ t) ≡ option_and_then (λ m. value_from greatest base m t) (value_from greatest base next s)
        → (if u then value_from greatest base n (s ++ t) else (if v then value_from greatest base next (s ++ t) else None))
        ≡ option_and_then (λ m. value_from greatest base m t) (if u then value_from greatest base n s else (if v then value_from greatest base next s else None))
    by true v same on = same
    by false true same on = on
    by false false same on = refl

digit_is : (d : ℕ) → d < 16 → digit_value (digit_character d) ≡ d
digit_is d small = grind (arith, nat_tests)

no_underscore : (d : ℕ) → d < 16 → (digit_character d == underscore) ≡ false
no_underscore d small = grind (arith, nat_tests)

digit_no_hash : (d : ℕ) → d < 16 → no_hash (digit_character d) ≡ true
digit_no_hash d small = grind (arith, nat_tests)

one_digit : (greatest n d : ℕ) → d < 16 → 16 * n + d ≤ greatest → value_from greatest 16 n (digit_character d ∷ []) ≡ Some (16 * n + d)
unfolding value_from
one_digit greatest n d small fits =
    let a : nat_lt d 16 ≡ true = grind (arith, nat_tests) in
    let b : nat_le (16 * n + d) greatest ≡ true = grind (arith, nat_tests) in
    rw (no_underscore d small, digit_is d small, a, b) refl

pub hex_value : (greatest count n : ℕ) → n < 16 ^ count → n ≤ greatest → value_from greatest 16 0 (digits_in_base 16 count n) ≡ Some n
unfolding digits_in_base value_from
hex_value greatest zero n small fits = zeroed
  where
    zeroed : value_from greatest 16 0 [] ≡ Some n
    zeroed = ap Some (omega (arith, small))
hex_value greatest (suc count) n small fits =
    value_joined greatest 16 0 (digits_in_base 16 count (n / 16)) (digit_character (n % 16) ∷ [])
    ∙ ap (λ o. option_and_then (λ m. value_from greatest 16 m (digit_character (n % 16) ∷ [])) o)
    (hex_value greatest count (n / 16) (omega (arith, pow-succ' 16 count, small)) (omega arith))
    ∙ one_digit greatest (n / 16) (n % 16) (omega arith) (omega arith)
    ∙ ap Some (omega arith)

joined_all : (p : ℕ → Bool) (s : List ℕ) (b : ℕ) → list_all p s ≡ true → p b ≡ true → list_all p (s ++ b ∷ []) ≡ true
joined_all p [] b all is = rw is refl
joined_all p (c ∷ s) b all is =
    let parts : (p c ≡ true) × (list_all p s ≡ true) = and_parts (p c) (list_all p s) all in
    and_from (p c) (list_all p (s ++ b ∷ [])) parts.0 (joined_all p s b parts.1 is)

pub hex_no_hash : (count n : ℕ) → list_all no_hash (digits_in_base 16 count n) ≡ true
unfolding digits_in_base
hex_no_hash zero n = refl
hex_no_hash (suc count) n = joined_all no_hash (digits_in_base 16 count (n / 16)) (digit_character (n % 16)) (hex_no_hash count (n / 16)) (digit_no_hash (n % 16) (omega arith))

pub byte_value : (n : ℕ) → n ≤ 255 → based_value (codes "B#16#" ++ digits_in_base 16 2 n) ≡ Some (literal.Byte n)
unfolding based_value based_literal first_letter
byte_value n fits = rw (behind_hash (codes "B#16") (digits_in_base 16 2 n) (hex_no_hash 2 n), hex_value 255 2 n (omega arith) fits) refl

pub word_value : (n : ℕ) → n ≤ 65535 → based_value (codes "W#16#" ++ digits_in_base 16 4 n) ≡ Some (literal.Word n)
unfolding based_value based_literal first_letter
word_value n fits = rw (behind_hash (codes "W#16") (digits_in_base 16 4 n) (hex_no_hash 4 n), hex_value 65535 4 n (omega arith) fits) refl

pub dword_value : (n : ℕ) → n < 2 ^ 32 → based_value (codes "DW#16#" ++ digits_in_base 16 8 n) ≡ Some (literal.Dword n)
unfolding based_value based_literal first_letter
dword_value n fits = rw (behind_hash (codes "DW#16") (digits_in_base 16 8 n) (hex_no_hash 8 n), hex_value (2 ^ 32 - 1) 8 n (omega arith) (omega arith)) refl

-- ---- decimal constants

digit_no_sign : (b : ℕ) → is_ascii_digit b ≡ true → ((b == minus_sign) ≡ false) × ((b == plus_sign) ≡ false) × (no_hash b ≡ true)
digit_no_sign b is = (grind (arith, nat_tests, is), grind (arith, nat_tests, is), grind (arith, nat_tests, is))

digits_no_hash : (s : List ℕ) → list_all is_ascii_digit s ≡ true → list_all no_hash s ≡ true
digits_no_hash [] all = refl
digits_no_hash (b ∷ s) all =
    let parts : (is_ascii_digit b ≡ true) × (list_all is_ascii_digit s ≡ true) = and_parts (is_ascii_digit b) (list_all is_ascii_digit s) all in
    and_from (no_hash b) (list_all no_hash s) (digit_no_sign b parts.0).2 (digits_no_hash s parts.1)

all_joined : (p : ℕ → Bool) (s t : List ℕ) → list_all p s ≡ true → list_all p t ≡ true → list_all p (s ++ t) ≡ true
all_joined p [] t a b = b
all_joined p (c ∷ s) t a b =
    let parts : (p c ≡ true) × (list_all p s ≡ true) = and_parts (p c) (list_all p s) a in
    and_from (p c) (list_all p (s ++ t)) parts.0 (all_joined p s t parts.1 b)

signed_no_hash : (z : ℤ) → IsLong z → list_all no_hash (signed_decimal z) ≡ true
signed_no_hash (pos n) h = digits_no_hash (decimal n) (numeral n (omega arith)).digits
signed_no_hash (negsuc n) h = digits_no_hash (decimal (suc n)) (numeral (suc n) (omega arith)).digits

long_plain : (s : List ℕ) (n : ℕ) → 0 < length s → list_all is_ascii_digit s ≡ true → decimal_up_to (greatest_long false) s ≡ Some n
    → long_value s ≡ Some (pos n)
unfolding long_value
long_plain [] n some all value = absurd (omega arith)
long_plain (b ∷ s) n some all value =
    let no = digit_no_sign b (and_parts (is_ascii_digit b) (list_all is_ascii_digit s) all).0 in
    rw (no.0, no.1, value) refl

long_read : (z : ℤ) → IsLong z → long_value (signed_decimal z) ≡ Some z
unfolding greatest_long long_value
long_read (pos n) h =
    let d : IsNumeral n (decimal n) = numeral n (omega arith) in
    long_plain (decimal n) n d.some d.digits (number_read 2147483647 n h (omega arith))
long_read (negsuc n) h = negated (number_read 2147483648 (suc n) h (omega arith))
  where
    negated : decimal_up_to 2147483648 (decimal (suc n)) ≡ Some (suc n) → long_value (45 ∷ decimal (suc n)) ≡ Some (negsuc n)
    negated e = rw e (ap Some (minus n))

pub long_constant : (z : ℤ) → IsLong z → long_or_count (codes "L#" ++ signed_decimal z) ≡ Some (literal.Long z)
unfolding long_or_count first_letter
long_constant z h = rw (behind_hash (codes "L") (signed_decimal z) (signed_no_hash z h), long_read z h) refl

-- ---- times

digits_before : (s : List ℕ) → list_all is_ascii_digit s ≡ true → prefix_len is_ascii_digit (s ++ codes "MS") ≡ length s
digits_before [] all = refl
digits_before (b ∷ s) all =
    let parts : (is_ascii_digit b ≡ true) × (list_all is_ascii_digit s ≡ true) = and_parts (is_ascii_digit b) (list_all is_ascii_digit s) all in
    rw parts.0 (omega (arith, digits_before s parts.1))

take_front : (s t : List ℕ) → take (length s) (s ++ t) ≡ s
take_front [] t = refl
take_front (b ∷ s) t = ap (λ l. b ∷ l) (take_front s t)

one_part : (s : List ℕ) → 0 < length s → list_all is_ascii_digit s ≡ true → milliseconds time_units (s ++ codes "MS") ≡ Some (decimal_value s * 1)
unfolding milliseconds time_units is_part letters_of_unit milliseconds_of_unit
one_part s some all =
    let a : nat_lt 0 (length s) ≡ true = grind (arith, nat_tests) in
    rw (digits_before s all, take_front s (codes "MS"), drop_front s (codes "MS"), a) refl

time_of : (n : ℕ) → n < 2 ^ 64 → milliseconds time_units (decimal n ++ codes "MS") ≡ Some n
time_of n small =
    let d : IsNumeral n (decimal n) = numeral n small in
    one_part (decimal n) d.some d.digits ∙ ap Some (omega (arith, d.value))

time_plain : (s : List ℕ) (n : ℕ) → 0 < length s → list_all is_ascii_digit s ≡ true → milliseconds time_units (s ++ codes "MS") ≡ Some n → n ≤ 2147483647
    → time_value (s ++ codes "MS") ≡ Some (pos n)
unfolding time_value value_up_to greatest_long
time_plain [] n some all value fits = absurd (omega arith)
time_plain (b ∷ s) n some all value fits =
    let no = digit_no_sign b (and_parts (is_ascii_digit b) (list_all is_ascii_digit s) all).0 in
    let a : nat_le n 2147483647 ≡ true = grind (arith, nat_tests) in
    rw (no.0, value, a) refl

time_read : (z : ℤ) → IsLong z → time_value (signed_decimal z ++ codes "MS") ≡ Some z
unfolding time_value value_up_to greatest_long
time_read (pos n) h =
    let d : IsNumeral n (decimal n) = numeral n (omega arith) in
    time_plain (decimal n) n d.some d.digits (time_of n (omega arith)) h
time_read (negsuc n) h = negated (time_of (suc n) (omega arith)) (grind (arith, nat_tests))
  where
    negated : milliseconds time_units (decimal (suc n) ++ codes "MS") ≡ Some (suc n) → nat_le (suc n) 2147483648 ≡ true → time_value (45 ∷ (decimal (suc n) ++ codes "MS")) ≡ Some (negsuc n)
    negated e a = rw (e, a) (ap Some (minus n))

pub time_constant : (z : ℤ) → IsLong z → duration_literal (codes "T#" ++ (signed_decimal z ++ codes "MS")) ≡ Some (literal.Time z)
unfolding duration_literal first_letter
time_constant z h = rw (behind_hash (codes "T") (signed_decimal z ++ codes "MS") (all_joined no_hash (signed_decimal z) (codes "MS") (signed_no_hash z h) refl), time_read z h) refl
