-- What a text spells is valid.
use Rattle.std.proofs.Common.{◌≡◌, ◌≤◌, ◌<◌, ◌^◌, ℕ, suc, Bool, true, false, ◌&&◌, List, [], ◌∷◌, length, take, drop, map, Option, Some, None, Ok, Err, refl, sym, ap, arith, bytes_eq, codes, subst}
use Rattle.std.specs.Prelude.{IfOk, IfSome, ◌==◌, nat_le, if◌then◌else◌}
use Rattle.std.specs.List.{list_all, slice_split}
use Rattle.std.proofs.lemmas.Bool.{and_parts, le-leb, leb-true, eqb-true}
use Rattle.std.proofs.lemmas.Int.Digits.{digits_value-lt}
use Rattle.std.proofs.lemmas.Bool.Decides.{nat_tests}
use Rattle.std.proofs.lemmas.List.{length-map}
use Rattle.std.specs.Str.Parse.{AllDigits, digits_value}
use Rattle.std.specs.Char.{digit_value, is_ascii_hexdigit}
use Rattle.plc_base.specs.Decimal.{decimal_value, is_decimal}
use Rattle.plc_base.specs.Kinds.{is_code}
use Rattle.plc_base.specs.Widths.{bit_count}
use Rattle.plc_base.specs.declared.places.Area.{Area}
use Rattle.plc_base.specs.declared.places.Place.{Place}
use Rattle.plc_base.specs.declared.places.Width.{Width}
use Rattle.plc_base.specs.declared.places.Width.TheVariants.{Bit, Byte, Word, Dword}
use Rattle.var_access.specs.Entry.{is_bit_of_width, has_variables, is_var, IsRequest}
use Rattle.var_access.specs.Readings.{Reading, address_number, all_readings, both_readings, first_word, hex_of, is_hex, number_reading, reading_map, trim, words_of}
use Rattle.std.proofs.lemmas.Result.{IfOk-weaker}
use Rattle.var_access.specs.Requests.{few_vars, kind_of_word, monitor_request, monitor_on, one_word, comma_parts, read_request, request_by, request_line, request_of, vars_of, write_request, write_to}
use Rattle.var_access.specs.Variables.{Names, area_of_letters, behind_letters, bit_number_reading, bit_value, bit_var, block_bit, block_var, closed_name, db_width_of, is_point, is_quote, leading_letters, named_var, two_parts, var_at, var_of, var_of_parts, wide_in, wide_of, wide_var, width_of_letters, width_value}
use Rattle.var_access.specs.declared.requests.Request.{Request}
use Rattle.var_access.specs.declared.requests.Request.TheVariants.{ReadVars, WriteVar, Stop, Restart, MonitorOff, Diag}
use Rattle.var_access.specs.declared.requests.Var.{Var}
use Rattle.var_access.proofs.PartLemmas.{parts_some}

-- ---- parts

any : {A : Type 0} (r : Reading A) → IfOk r (λ a. Unit {0})
any (Ok a) = tt
any (Err rule) = tt

map-valid : {A B : Type 0} (f : A → B) (P : A → Type 0) (Q : B → Type 0) (r : Reading A) → ((a : A) → P a → Q (f a)) → IfOk r P
    → IfOk (reading_map f r) Q
map-valid f P Q (Ok a) each is = each a is
map-valid f P Q (Err rule) each is = tt

both-valid : {A B : Type 0} (P : A → Type 0) (Q : B → Type 0) (r : Reading A) (s : Reading B) → IfOk r P → IfOk s Q
    → IfOk (both_readings r s) (λ p. P p.0 × Q p.1)
both-valid P Q (Ok a) (Ok b) is also = (is, also)
both-valid P Q (Ok a) (Err rule) is also = tt
both-valid P Q (Err rule) (Ok b) is also = tt
both-valid P Q (Err rule) (Err other) is also = tt

if-valid : {A : Type 0} (P : A → Type 0) (b : Bool) (x y : Reading A) → (b ≡ true → IfOk x P) → (b ≡ false → IfOk y P)
    → IfOk (if b then x else y) P
if-valid P true x y one other = one refl
if-valid P false x y one other = other refl

if-some : {A : Type 0} (P : A → Type 0) (b : Bool) (x y : Option A) → IfSome x P → IfSome y P → IfSome (if b then x else y) P
if-some P true x y one other = one
if-some P false x y one other = other

and-true : (a b : Bool) → a ≡ true → b ≡ true → (a && b) ≡ true
and-true true b one other = other
and-true false b one other = one

number_range : (low high rule : ℕ) (word : List ℕ) → IfOk (number_reading low high rule word) (λ n. (low ≤ n) × (n ≤ high))
unfolding number_reading
number_range low high rule word =
    let n : ℕ = decimal_value word in
    if-valid _ (is_decimal word) _ _
    (λ is. if-valid _ (nat_le low n && nat_le n high) (Ok n) (Err rule)
    (λ within. let parts = and_parts (nat_le low n) (nat_le n high) within in (leb-true low n parts.0, leb-true n high parts.1))
    (λ beyond. tt))
    (λ isn't. tt)

-- ---- variables

abbrev IsVar : Var → Type 0
IsVar v = is_var v ≡ true

abbrev Whole : Area → Type 0
Whole a = has_variables a 0 ≡ true

first_bit : (width : Width) → is_bit_of_width width 0 ≡ true
first_bit Bit = refl
first_bit Byte = refl
first_bit Word = refl
first_bit Dword = refl

area-whole : (letters : List ℕ) → IfSome (area_of_letters letters) Whole
unfolding area_of_letters
area-whole letters =
    if-some Whole (bytes_eq letters (codes "I")) _ _ refl
    (if-some Whole (bytes_eq letters (codes "Q")) _ _ refl
    (if-some Whole (bytes_eq letters (codes "M")) _ None refl tt))

wide-whole : (area : Option Area) (width : Option Width) → IfSome area Whole → IfSome (wide_in area width) (λ w. Whole w.0)
wide-whole None None is = tt
wide-whole None (Some width) is = tt
wide-whole (Some area) None is = tt
wide-whole (Some area) (Some width) is = is

wide_var-valid : (w : Option (Area × Width)) (byte : List ℕ) → IfSome w (λ w. Whole w.0) → IfOk (wide_var w byte) IsVar
wide_var-valid None byte is = tt
wide_var-valid (Some w) byte is =
    map-valid (λ n. var_at w.0 0 n 0 w.1) (λ n. Unit {0}) IsVar (address_number byte)
    (λ n _. and-true (has_variables w.0 0) (is_bit_of_width w.1 0) is (first_bit w.1)) (any (address_number byte))

bit-below : (word : List ℕ) → IfOk (bit_number_reading word) (λ n. is_bit_of_width Bit n ≡ true)
bit-below word = weaker (bit_number_reading word) (number_range 0 7 2 word)
  where
    weaker : (r : Reading ℕ) → IfOk r (λ n. (0 ≤ n) × (n ≤ 7)) → IfOk r (λ n. is_bit_of_width Bit n ≡ true)
    weaker (Ok n) is = le-leb n 7 is.1
    weaker (Err rule) is = tt

bit_var-valid : (area : Area) (byte bit : List ℕ) → Whole area → IfOk (bit_var area byte bit) IsVar
bit_var-valid area byte bit is =
    map-valid (λ n. var_at area 0 n.0 n.1 Bit) (λ n. Unit {0} × (is_bit_of_width Bit n.1 ≡ true)) IsVar (both_readings (address_number byte) (bit_number_reading bit))
    (λ n within. and-true (has_variables area 0) (is_bit_of_width Bit n.1) is within.1)
    (both-valid (λ n. Unit {0}) (λ n. is_bit_of_width Bit n ≡ true) (address_number byte) (bit_number_reading bit) (any (address_number byte)) (bit-below bit))

block_var-valid : (width : Option Width) (number byte : List ℕ) → IfOk (block_var width number byte) IsVar
block_var-valid None number byte = tt
block_var-valid (Some width) number byte =
    map-valid _ (λ n. Unit {0}) IsVar (both_readings (address_number number) (address_number byte)) (λ n _. first_bit width)
    (any (both_readings (address_number number) (address_number byte)))

block_bit-valid : (number byte bit : List ℕ) → IfOk (block_bit number byte bit) IsVar
block_bit-valid number byte bit =
    map-valid _ (λ n. Unit {0} × (Unit {0} × (is_bit_of_width Bit n.1.1 ≡ true))) IsVar
    (both_readings (address_number number) (both_readings (address_number byte) (bit_number_reading bit))) (λ n within. within.1.1)
    (both-valid (λ n. Unit {0}) (λ n. Unit {0} × (is_bit_of_width Bit n.1 ≡ true)) (address_number number) (both_readings (address_number byte) (bit_number_reading bit))
    (any (address_number number))
    (both-valid (λ n. Unit {0}) (λ n. is_bit_of_width Bit n ≡ true) (address_number byte) (bit_number_reading bit) (any (address_number byte)) (bit-below bit)))

two_parts-valid : (area : Option Area) (first second : List ℕ) → IfSome area Whole → IfOk (two_parts area first second) IsVar
two_parts-valid (Some area) first second is = bit_var-valid area (behind_letters first) second is
two_parts-valid None first second is =
    if-valid IsVar (bytes_eq (leading_letters first) (codes "DB")) _ (Err 1)
    (λ _. block_var-valid (db_width_of (leading_letters second)) (behind_letters first) (behind_letters second)) (λ _. tt)

var_of_parts-valid : (parts : List (List ℕ)) → IfOk (var_of_parts parts) IsVar
var_of_parts-valid [] = tt
var_of_parts-valid (first ∷ []) =
    wide_var-valid (wide_of (leading_letters first)) (behind_letters first)
    (wide-whole (area_of_letters (take 1 (leading_letters first))) (width_of_letters (drop 1 (leading_letters first))) (area-whole (take 1 (leading_letters first))))
var_of_parts-valid (first ∷ second ∷ []) = two_parts-valid (area_of_letters (leading_letters first)) first second (area-whole (leading_letters first))
var_of_parts-valid (first ∷ second ∷ third ∷ []) =
    if-valid IsVar (bytes_eq (leading_letters first) (codes "DB") && bytes_eq (leading_letters second) (codes "DBX")) _ (Err 1)
    (λ _. block_bit-valid (behind_letters first) (behind_letters second) third) (λ _. tt)
var_of_parts-valid (first ∷ second ∷ third ∷ fourth ∷ more) = tt

named_var-valid : (at : Option (Place × Width)) → IfOk (named_var at) IsVar
named_var-valid None = tt
named_var-valid (Some at) =
    let v : Var = record { place = at.0; width = at.1 } in if-valid IsVar (is_var v) (Ok v) (Err 3) (λ is. is) (λ _. tt)

closed_name-valid : (names : Names) (name rest : List ℕ) → IfOk (closed_name names name rest) IsVar
closed_name-valid names [] rest = tt
closed_name-valid names (b ∷ name) [] = tt
closed_name-valid names (b ∷ name) (quote ∷ []) = named_var-valid (names (b ∷ name))
closed_name-valid names (b ∷ name) (quote ∷ c ∷ rest) = tt

var-valid : (names : Names) (text : List ℕ) → IfOk (var_of names text) IsVar
unfolding var_of
var-valid names [] = tt
var-valid names (b ∷ t) =
    if-valid IsVar (is_quote b) _ _ (λ _. closed_name-valid names _ _) (λ _. var_of_parts-valid (slice_split is_point (b ∷ t)))

-- ---- values

bit_value-below : (word : List ℕ) → IfOk (bit_value word) (λ n. n < 2 ^ 1)
bit_value-below word =
    if-valid _ (is_hex word) _ (Err 1)
    (λ _. if-valid _ (bytes_eq word (codes "0")) (Ok 0) _ (λ _. omega arith)
    (λ _. if-valid _ (bytes_eq word (codes "1")) (Ok 1) (Err 2) (λ _. omega arith) (λ _. tt)))
    (λ _. tt)

hex-digits : (word : List ℕ) → list_all is_ascii_hexdigit word ≡ true → AllDigits 16 word
hex-digits [] all = tt
hex-digits (b ∷ t) all =
    let parts = and_parts (is_ascii_hexdigit b) (list_all is_ascii_hexdigit t) all in (hex-digit b parts.0, hex-digits t parts.1)
  where
    hex-digit : (b : ℕ) → is_ascii_hexdigit b ≡ true → digit_value b < 16
    hex-digit b is = grind (arith, nat_tests, is)

hex-all : (word : List ℕ) → is_hex word ≡ true → list_all is_ascii_hexdigit word ≡ true
hex-all [] is = absurd cc
hex-all (b ∷ t) is = is

hex-below : (digits : ℕ) (word : List ℕ) → IfOk (hex_of digits word) (λ n. n < 16 ^ digits)
unfolding hex_of
hex-below digits word =
    if-valid _ (is_hex word) _ (Err 1)
    (λ hex. if-valid _ (length word == digits) (Ok (digits_value 16 word)) (Err 2)
    (λ len. subst (λ (n : ℕ). digits_value 16 word < 16 ^ n) (eqb-true (length word) digits len) (digits_value-lt 16 word (hex-digits word (hex-all word hex))))
    (λ _. tt))
    (λ _. tt)

value-below : (width : Width) (word : List ℕ) → IfOk (width_value width word) (λ n. n < 2 ^ bit_count width)
unfolding width_value
value-below Bit word = bit_value-below word
value-below Byte word = hex-below 2 word
value-below Word word = hex-below 4 word
value-below Dword word = hex-below 8 word

-- ---- requests

write_to-valid : (var : Reading Var) (word : List ℕ) → IfOk var IsVar → IfOk (write_to var word) IsRequest
write_to-valid (Ok var) word is =
    map-valid (λ value. WriteVar var value) (λ n. n < 2 ^ bit_count var.width) IsRequest (width_value var.width word)
    (λ value fits. (is, fits)) (value-below var.width word)
write_to-valid (Err rule) word is = if-valid IsRequest (is_hex word) (Err rule) (Err 1) (λ _. tt) (λ _. tt)

write-valid : (names : Names) (text : List ℕ) → IfOk (write_request names text) IsRequest
unfolding write_request
write-valid names text = write_to-valid _ _ (var-valid names _)

vars-valid : (f : List ℕ → Reading Var) → ((part : List ℕ) → IfOk (f part) IsVar) → (parts : List (List ℕ))
    → IfOk (all_readings (map f parts)) (λ vars. (list_all is_var vars ≡ true) × (length vars ≡ length parts))
vars-valid f each [] = (refl, refl)
vars-valid f each (part ∷ parts) =
    map-valid _ (λ p. IsVar p.0 × ((list_all is_var p.1 ≡ true) × (length p.1 ≡ length parts))) _
    (both_readings (f part) (all_readings (map f parts)))
    (λ p are. (and-true (is_var p.0) (list_all is_var p.1) are.0 are.1.0, ap suc are.1.1))
    (both-valid IsVar (λ vars. (list_all is_var vars ≡ true) × (length vars ≡ length parts)) (f part) (all_readings (map f parts)) (each part) (vars-valid f each parts))

few-valid : (f : List ℕ → Reading Var) → ((part : List ℕ) → IfOk (f part) IsVar) → (parts : List (List ℕ)) → 0 < length parts
    → IfOk (few_vars (map f parts)) (λ vars. IsRequest (ReadVars vars))
few-valid f each parts some =
    if-valid (λ vars. IsRequest (ReadVars vars)) (nat_le (length (map f parts)) 8) _ (Err 1)
    (λ few. IfOk-weaker (all_readings (map f parts)) (λ vars. (list_all is_var vars ≡ true) × (length vars ≡ length parts)) (λ vars. IsRequest (ReadVars vars))
    (λ vars are. (omega (arith, some, are.1), omega (arith, are.1, length-map parts f, leb-true (length (map f parts)) 8 few), are.0))
    (vars-valid f each parts))
    (λ _. tt)

read-valid : (names : Names) (text : List ℕ) → IfOk (read_request names text) IsRequest
unfolding read_request
read-valid names text =
    map-valid ReadVars (λ vars. IsRequest (ReadVars vars)) IsRequest (vars_of names text) (λ vars are. are)
    (few-valid (λ part. var_of names (trim part)) (λ part. var-valid names (trim part)) (comma_parts false text) (parts_some text))

kind-valid : (word : List ℕ) → IfOk (kind_of_word word) (λ kind. is_code kind ≡ true)
unfolding kind_of_word
kind-valid word =
    if-valid _ (bytes_eq word (codes "OB")) _ _ (λ _. refl)
    (λ _. if-valid _ (bytes_eq word (codes "FC")) _ _ (λ _. refl)
    (λ _. if-valid _ (bytes_eq word (codes "FB")) _ (Err 1) (λ _. refl) (λ _. tt)))

monitor_on-valid : (how kind number : List ℕ) → IfOk (monitor_on how kind number) IsRequest
monitor_on-valid how kind number =
    if-valid IsRequest (bytes_eq how (codes "on")) _ (Err 1)
    (λ _. map-valid _ (λ b. (is_code b.0 ≡ true) × Unit {0}) IsRequest (both_readings (kind_of_word kind) (address_number number)) (λ b is. is.0)
    (both-valid (λ k. is_code k ≡ true) (λ n. Unit {0}) (kind_of_word kind) (address_number number) (kind-valid kind) (any (address_number number))))
    (λ _. tt)

monitor-valid : (words : List (List ℕ)) → IfOk (monitor_request words) IsRequest
unfolding monitor_request
monitor-valid [] = tt
monitor-valid (how ∷ []) = if-valid IsRequest (bytes_eq how (codes "off")) (Ok MonitorOff) (Err 1) (λ _. tt) (λ _. tt)
monitor-valid (how ∷ kind ∷ []) = tt
monitor-valid (how ∷ kind ∷ number ∷ []) = monitor_on-valid how kind number
monitor-valid (how ∷ kind ∷ number ∷ word ∷ words) = tt

one-valid : (r : Request) (words : List (List ℕ)) → IsRequest r → IfOk (one_word r words) IsRequest
one-valid r [] is = is
one-valid r (word ∷ words) is = tt

request-valid : (names : Names) (word rest : List ℕ) → IfOk (request_of names word rest) IsRequest
unfolding request_of
request-valid names word rest =
    if-valid IsRequest (bytes_eq word (codes "read")) _ _ (λ _. read-valid names rest)
    (λ _. if-valid IsRequest (bytes_eq word (codes "write")) _ _ (λ _. write-valid names rest)
    (λ _. if-valid IsRequest (bytes_eq word (codes "stop")) _ _ (λ _. one-valid Stop (words_of rest) tt)
    (λ _. if-valid IsRequest (bytes_eq word (codes "restart")) _ _ (λ _. one-valid Restart (words_of rest) tt)
    (λ _. if-valid IsRequest (bytes_eq word (codes "monitor")) _ _ (λ _. monitor-valid (words_of rest))
    (λ _. if-valid IsRequest (bytes_eq word (codes "diag")) _ (Err 1) (λ _. one-valid Diag (words_of rest) tt) (λ _. tt))))))

-- what a word and what follows it spell
pub request_valid : (names : Names) (word rest : List ℕ) (r : Reading Request) → r ≡ request_of names word rest → IfOk r IsRequest
request_valid names word rest r is = subst (λ x. IfOk x IsRequest) (sym is) (request-valid names word rest)

by-valid : (names : Names) (w : Option (List ℕ × List ℕ)) → IfOk (request_by names w) IsRequest
by-valid names None = tt
by-valid names (Some w) = request-valid names w.0 w.1

-- what a text spells
pub line_valid : (names : Names) (text : List ℕ) (r : Request) → Ok r ≡ request_line names text → IsRequest r
unfolding request_line
line_valid names text r is = subst (λ x. IfOk x IsRequest) (sym is) (by-valid names (first_word text))
