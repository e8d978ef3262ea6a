-- Requests as they are written, and read again.
use Rattle.std.proofs.Common.{◌≡◌, ◌≤◌, ◌<◌, ◌+◌, ◌^◌, ℕ, zero, suc, Bool, true, false, ◌||◌, List, [], ◌∷◌, ◌++◌, length, map, take, drop, reverse, Ok, refl, ap, ◌∙◌, arith, decimal, nat_le, codes, append-nil}
use Rattle.std.proofs.lemmas.List.{reverse-reverse}
use Rattle.std.specs.Char.{is_ascii_digit, is_ascii_hexdigit}
use Rattle.std.specs.List.{onto_first}
use Rattle.std.proofs.lemmas.Fmt.{decimal_digit}
use Rattle.std.proofs.lemmas.Bool.Decides.{nat_tests}
use Rattle.plc_base.specs.Widths.{bit_count}
use Rattle.plc_base.specs.declared.blocks.BlockId.{BlockId}
use Rattle.plc_base.specs.declared.blocks.BlockKind.{BlockKind}
use Rattle.plc_base.specs.declared.blocks.BlockKind.TheVariants.{Ob, Fc, Fb, Db as DbKind, Sfc, Udt}
use Rattle.plc_base.specs.declared.places.Area.{Area}
use Rattle.plc_base.specs.declared.places.Area.TheVariants.{P, I, Q, M, Db, Di, L}
use Rattle.plc_base.specs.declared.places.Width.{Width}
use Rattle.plc_base.specs.declared.places.Width.TheVariants.{Bit, Byte, Word, Dword}
use Rattle.var_access.specs.declared.requests.Request.{Request}
use Rattle.var_access.specs.declared.requests.Request.TheVariants.{ReadVars, WriteVar, Stop, Restart, MonitorOn, MonitorOff, Diag}
use Rattle.var_access.specs.declared.requests.Var.{Var}
use Rattle.var_access.specs.Readings.{reading_map, all_readings, address_number, trim, first_word, words_of}
use Rattle.var_access.specs.Variables.{Names, is_letter, is_quote, is_point, var_of, width_value, bit_value}
use Rattle.var_access.specs.Requests.{is_comma, comma_parts, few_vars, read_request, write_to, write_in, write_request, kind_of_word, monitor_request, one_word, request_of, request_by, request_line}
use Rattle.monitor.specs.LineText.{hex_text, kind_text}
use Rattle.event_text.specs.HistoryText.{value_text, place_text, var_text, more_vars_text, vars_text, request_text, width_text, block_width_text, bit_text}
use Rattle.event_text.proofs.AddressLemmas.{HasArea, HasBit, IsAddress, AreAddresses, IsKind, IsWritable}
use Rattle.event_text.proofs.ByteLemmas.{Each, each-append, each-weaker, Implies, Excludes, Stops, take-front, drop-front}
use Rattle.event_text.proofs.NumberLemmas.{numeral, number-of, IsHex, hex-text, hex_read}
use Rattle.event_text.proofs.VarLemmas.{var_read, both-read, digits-of}
use Rattle.event_text.proofs.WordLemmas.{is_solid, IsWord, trimmed-word, trimmed-front, trimmed-two, words-one, words-more, words-last, words-blank, words-none, backwards, forwards, last-at, first-word-behind}

-- ---- the bytes of a variable's text

-- letters, digits and points
abbrev pub is_shown : ℕ → Bool
is_shown b = is_letter b || is_ascii_digit b || is_point b

digit-shown : Implies is_ascii_digit is_shown
digit-shown b h = grind (arith, nat_tests)

shown-solid : Implies is_shown is_solid
shown-solid b h = grind (arith, nat_tests)

shown-quote : Excludes is_shown is_quote
shown-quote b h = grind (arith, nat_tests)

shown-comma : Excludes is_shown is_comma
shown-comma b h = grind (arith, nat_tests)

number-shown : (n : ℕ) → n < 65536 → Each is_shown (decimal n)
number-shown n small = each-weaker is_ascii_digit is_shown digit-shown (decimal n) (digits-of n small)

width-shown : (w : Width) → Each is_shown (width_text w)
width-shown Bit = tt
width-shown Byte = (refl, tt)
width-shown Word = (refl, tt)
width-shown Dword = (refl, tt)

db-width-shown : (w : Width) → Each is_shown (block_width_text w)
db-width-shown Bit = (refl, (refl, (refl, tt)))
db-width-shown Byte = (refl, (refl, (refl, tt)))
db-width-shown Word = (refl, (refl, (refl, tt)))
db-width-shown Dword = (refl, (refl, (refl, tt)))

bit-shown : (w : Width) (k : ℕ) → HasBit w k → Each is_shown (bit_text w k)
bit-shown Bit k few = (refl, number-shown k (omega arith))
bit-shown Byte k few = tt
bit-shown Word k few = tt
bit-shown Dword k few = tt

behind-shown : (s : List ℕ) (n k : ℕ) (w : Width) → Each is_shown s → n < 65536 → HasBit w k
    → Each is_shown (s ++ (decimal n ++ bit_text w k))
behind-shown s n k w h small few =
    each-append is_shown s _ h (each-append is_shown (decimal n) (bit_text w k) (number-shown n small) (bit-shown w k few))

place-shown : (area : Area) (number byte bit : ℕ) (w : Width) → number < 65536 → byte < 65536 → HasBit w bit → HasArea area number
    → Each is_shown (place_text area number byte bit w)
place-shown I number byte bit w ns bs few a = (refl, behind-shown (width_text w) byte bit w (width-shown w) bs few)
place-shown Q number byte bit w ns bs few a = (refl, behind-shown (width_text w) byte bit w (width-shown w) bs few)
place-shown M number byte bit w ns bs few a = (refl, behind-shown (width_text w) byte bit w (width-shown w) bs few)
place-shown Db number byte bit w ns bs few a = (
  refl,
  (
    refl,
    each-append is_shown (decimal number) _ (number-shown number ns)
        (refl, behind-shown (block_width_text w) byte bit w (db-width-shown w) bs few),
  ),
)
place-shown P number byte bit w ns bs few a = absurd a
place-shown Di number byte bit w ns bs few a = absurd a
place-shown L number byte bit w ns bs few a = absurd a

place-some : (area : Area) (number byte bit : ℕ) (w : Width) → HasArea area number → 0 < length (place_text area number byte bit w)
place-some I number byte bit w a = omega arith
place-some Q number byte bit w a = omega arith
place-some M number byte bit w a = omega arith
place-some Db number byte bit w a = omega arith
place-some P number byte bit w a = absurd a
place-some Di number byte bit w a = absurd a
place-some L number byte bit w a = absurd a

pub var-shown : (v : Var) → IsAddress v → Each is_shown (var_text v)
unfolding var_text
var-shown v h = place-shown v.place.area v.place.number v.place.byte v.place.bit v.width h.number h.byte h.bit h.area

pub var-word : (v : Var) → IsAddress v → IsWord (var_text v)
unfolding var_text
var-word v h = record {
  some = place-some v.place.area v.place.number v.place.byte v.place.bit v.width h.area;
  solid = each-weaker is_shown is_solid shown-solid _ (var-shown v h);
}

-- ---- read

-- a byte that doesn't cut
no-cut : (b : ℕ) (t : List ℕ) → is_quote b ≡ false → is_comma b ≡ false → comma_parts false (b ∷ t) ≡ onto_first b (comma_parts false t)
no-cut b t q c = rw (q, c) refl

parts-none : (t : List ℕ) → Each is_shown t → comma_parts false t ≡ t ∷ []
parts-none [] h = refl
parts-none (b ∷ t) h = no-cut b t (shown-quote b h.0) (shown-comma b h.0) ∙ ap (onto_first b) (parts-none t h.1)

parts-at : (t rest : List ℕ) → Each is_shown t → comma_parts false (t ++ 44 ∷ rest) ≡ t ∷ comma_parts false rest
parts-at [] rest h = refl
parts-at (b ∷ t) rest h = no-cut b (t ++ 44 ∷ rest) (shown-quote b h.0) (shown-comma b h.0) ∙ ap (onto_first b) (parts-at t rest h.1)

abbrev spaced : Var → List ℕ
spaced v = 32 ∷ var_text v

parts-of : (v : Var) (vs : List Var) → AreAddresses (v ∷ vs) → comma_parts false (32 ∷ (var_text v ++ more_vars_text vs)) ≡ map spaced (v ∷ vs)
parts-of v [] h =
    ap (λ t. comma_parts false (32 ∷ t)) (append-nil (var_text v)) ∙ no-cut 32 (var_text v) refl refl
    ∙ ap (onto_first 32) (parts-none (var_text v) (var-shown v h.0))
parts-of v (w ∷ ws) h =
    no-cut 32 (var_text v ++ more_vars_text (w ∷ ws)) refl refl
    ∙ ap (onto_first 32) (parts-at (var_text v) (32 ∷ (var_text w ++ more_vars_text ws)) (var-shown v h.0))
    ∙ ap (λ ps. spaced v ∷ ps) (parts-of w ws h.1)

read-each : (names : Names) (vs : List Var) → AreAddresses vs → all_readings (map (λ part. var_of names (trim part)) (map spaced vs)) ≡ Ok vs
read-each names [] h = refl
read-each names (v ∷ vs) h =
    ap (λ r. reading_map (λ p. p.0 ∷ p.1) r)
    (both-read (var_of names (trim (spaced v))) (all_readings (map (λ part. var_of names (trim part)) (map spaced vs))) v vs
    (ap (var_of names) (trimmed-word (var_text v) (var-word v h.0)) ∙ var_read names v h.0) (read-each names vs h.1))

count-each : (names : Names) (vs : List Var) → length (map (λ part. var_of names (trim part)) (map spaced vs)) ≡ length vs
count-each names [] = refl
count-each names (v ∷ vs) = ap (λ n. suc n) (count-each names vs)

few-read : (names : Names) (vs : List Var) → length vs ≤ 8 → AreAddresses vs
    → few_vars (map (λ part. var_of names (trim part)) (map spaced vs)) ≡ Ok vs
few-read names vs few h =
    let le : nat_le (length (map (λ part. var_of names (trim part)) (map spaced vs))) 8 ≡ true = ap (λ n. nat_le n 8) (count-each names vs) ∙ grind (arith, nat_tests) in
    rw le (read-each names vs h)

pub read-read : (names : Names) (vs : List Var) → 1 ≤ length vs → length vs ≤ 8 → AreAddresses vs → read_request names (32 ∷ vars_text vs) ≡ Ok (ReadVars vs)
unfolding read_request
read-read names [] some few h = absurd (omega arith)
read-read names (v ∷ vs) some few h =
    ap (λ ps. reading_map (λ xs. ReadVars xs) (few_vars (map (λ part. var_of names (trim part)) ps))) (parts-of v vs h)
    ∙ ap (λ r. reading_map (λ xs. ReadVars xs) r) (few-read names (v ∷ vs) few h)

-- ---- write

hexdigit-solid : Implies is_ascii_hexdigit is_solid
hexdigit-solid b h = grind (arith, nat_tests)

digit-solid : Implies is_ascii_digit is_solid
digit-solid b h = grind (arith, nat_tests)

bit-cases : (n : ℕ) → n < 2 → bit_value ((48 + n) ∷ []) ≡ Ok n
bit-cases zero h = refl
bit-cases (suc zero) h = refl
bit-cases (suc (suc n)) h = absurd (omega arith)

pub value-read : (w : Width) (n : ℕ) → n < 2 ^ bit_count w → width_value w (value_text w n) ≡ Ok n
unfolding width_value value_text
value-read Bit n h = ap bit_value (decimal_digit n (omega arith)) ∙ bit-cases n h
value-read Byte n h = hex_read 2 n (omega arith) h
value-read Word n h = hex_read 4 n (omega arith) h
value-read Dword n h = hex_read 8 n (omega arith) h

pub hex-word : (digits n : ℕ) → 0 < digits → n < 16 ^ digits → IsWord (hex_text digits n)
hex-word digits n some h =
    let k : IsHex digits n (hex_text digits n) = hex-text digits n h in
    record { some = omega (arith, k.len); solid = each-weaker is_ascii_hexdigit is_solid hexdigit-solid _ k.each }

pub number-word : (n : ℕ) → n < 2 ^ 64 → IsWord (decimal n)
number-word n h = record { some = (numeral n h).some; solid = each-weaker is_ascii_digit is_solid digit-solid _ (numeral n h).digits }

pub value-word : (w : Width) (n : ℕ) → n < 2 ^ bit_count w → IsWord (value_text w n)
unfolding value_text
value-word Bit n h = number-word n (omega arith)
value-word Byte n h = hex-word 2 n (omega arith) h
value-word Word n h = hex-word 4 n (omega arith) h
value-word Dword n h = hex-word 8 n (omega arith) h

pub write-read : (names : Names) (v : Var) (n : ℕ) → IsAddress v → n < 2 ^ bit_count v.width
    → write_request names (32 ∷ (var_text v ++ 32 ∷ value_text v.width n)) ≡ Ok (WriteVar v n)
unfolding write_request
write-read names v n h small =
    let a : List ℕ = var_text v in
    let b : List ℕ = value_text v.width n in
    let wa : IsWord a = var-word v h in
    let wb : IsWord b = value-word v.width n small in
    ap (λ t. write_in names (reverse t)) (trimmed-two a b wa wb)
    ∙ ap (write_in names) (backwards a b)
    ∙ ap (λ k. write_to (var_of names (trim (reverse (drop k (reverse b ++ (32 ∷ reverse a)))))) (reverse (take k (reverse b ++ (32 ∷ reverse a))))) (last-at b (reverse a) wb.solid)
    ∙ ap (λ t. write_to (var_of names (trim (reverse t))) (reverse (take (length (reverse b)) (reverse b ++ (32 ∷ reverse a))))) (drop-front (reverse b) (32 ∷ reverse a))
    ∙ ap (λ t. write_to (var_of names (trim (reverse (32 ∷ reverse a)))) (reverse t)) (take-front (reverse b) (32 ∷ reverse a))
    ∙ ap (λ t. write_to (var_of names (trim t)) (reverse (reverse b))) (forwards a)
    ∙ ap (λ t. write_to (var_of names t) (reverse (reverse b))) (trimmed-front a wa)
    ∙ ap (λ r. write_to r (reverse (reverse b))) (var_read names v h)
    ∙ ap (λ t. write_to (Ok v) t) (reverse-reverse b)
    ∙ ap (λ r. reading_map (λ value. WriteVar v value) r) (value-read v.width n small)

-- ---- monitor

kind-word : (k : BlockKind) → IsKind k → IsWord (kind_text k)
unfolding kind_text
kind-word Ob h = record { some = omega arith; solid = (refl, (refl, tt)) }
kind-word Fc h = record { some = omega arith; solid = (refl, (refl, tt)) }
kind-word Fb h = record { some = omega arith; solid = (refl, (refl, tt)) }
kind-word DbKind h = absurd h
kind-word Sfc h = absurd h
kind-word Udt h = absurd h

kind-read : (k : BlockKind) → IsKind k → kind_of_word (kind_text k) ≡ Ok k
unfolding kind_of_word kind_text
kind-read Ob h = refl
kind-read Fc h = refl
kind-read Fb h = refl
kind-read DbKind h = absurd h
kind-read Sfc h = absurd h
kind-read Udt h = absurd h

pub monitor-read : (block : BlockId) → IsKind block.kind → block.number < 65536
    → monitor_request (words_of (codes " on " ++ (kind_text block.kind ++ (codes " " ++ decimal block.number)))) ≡ Ok (MonitorOn block)
unfolding monitor_request
monitor-read block k small =
    let kind : List ℕ = kind_text block.kind in
    let number : List ℕ = decimal block.number in
    let on : IsWord (111 ∷ 110 ∷ []) = record { some = omega arith; solid = (refl, (refl, tt)) } in
    ap monitor_request (words-blank (111 ∷ 110 ∷ 32 ∷ (kind ++ 32 ∷ number)) ∙ words-more (111 ∷ 110 ∷ []) (kind ++ 32 ∷ number) on
    ∙ ap (λ ws. (111 ∷ 110 ∷ []) ∷ ws) (words-more kind number (kind-word block.kind k) ∙ ap (λ ws. kind ∷ ws) (words-last number (number-word block.number (omega arith)))))
    ∙ ap (λ r. reading_map (λ b. MonitorOn (record { kind = b.0; number = b.1 })) r)
    (both-read (kind_of_word kind) (address_number number) block.kind block.number (kind-read block.kind k) (number-of block.number small))

monitor-off : monitor_request (words_of (codes " off")) ≡ Ok MonitorOff
unfolding monitor_request
monitor-off = ap monitor_request (words-one (codes "off") (record { some = omega arith; solid = (refl, (refl, (refl, tt))) }))

-- ---- every request

-- the first word of a request, and what follows it
pub record IsAsked (names : Names) (r : Request) : Type 0 where
  pub word : List ℕ
  pub rest : List ℕ
  pub is_word : IsWord word
  pub stops : Stops is_solid rest
  pub text : request_text r ≡ word ++ rest
  pub read : request_of names word rest ≡ Ok r

word-by : (w : List ℕ) → 0 < length w → Each is_solid w → IsWord w
word-by w some solid = record { some = some; solid = solid }

pub asked-of : (names : Names) (r : Request) → IsWritable r → IsAsked names r
unfolding request_text request_of
asked-of names (ReadVars vs) h = record {
  word = codes "read";
  rest = 32 ∷ vars_text vs;
  is_word = word-by (codes "read") (omega arith) (refl, (refl, (refl, (refl, tt))));
  stops = refl;
  text = refl;
  read = read-read names vs h.0 h.1 h.2;
}
asked-of names (WriteVar v n) h = record {
  word = codes "write";
  rest = 32 ∷ (var_text v ++ 32 ∷ value_text v.width n);
  is_word = word-by (codes "write") (omega arith) (refl, (refl, (refl, (refl, (refl, tt)))));
  stops = refl;
  text = refl;
  read = write-read names v n h.0 h.1;
}
asked-of names Stop h = record {
  word = codes "stop";
  rest = [];
  is_word = word-by (codes "stop") (omega arith) (refl, (refl, (refl, (refl, tt))));
  stops = tt;
  text = refl;
  read = ap (one_word Stop) words-none;
}
asked-of names Restart h = record {
  word = codes "restart";
  rest = [];
  is_word = word-by (codes "restart") (omega arith) (refl, (refl, (refl, (refl, (refl, (refl, (refl, tt)))))));
  stops = tt;
  text = refl;
  read = ap (one_word Restart) words-none;
}
asked-of names (MonitorOn block) h = record {
  word = codes "monitor";
  rest = codes " on " ++ (kind_text block.kind ++ (codes " " ++ decimal block.number));
  is_word = word-by (codes "monitor") (omega arith) (refl, (refl, (refl, (refl, (refl, (refl, (refl, tt)))))));
  stops = refl;
  text = refl;
  read = monitor-read block h.0 h.1;
}
asked-of names MonitorOff h = record {
  word = codes "monitor";
  rest = codes " off";
  is_word = word-by (codes "monitor") (omega arith) (refl, (refl, (refl, (refl, (refl, (refl, (refl, tt)))))));
  stops = refl;
  text = refl;
  read = monitor-off;
}
asked-of names Diag h = record {
  word = codes "diag";
  rest = [];
  is_word = word-by (codes "diag") (omega arith) (refl, (refl, (refl, (refl, tt))));
  stops = tt;
  text = refl;
  read = ap (one_word Diag) words-none;
}

-- a request on a line of its own, or behind one blank
pub request-read : (names : Names) (r : Request) → IsWritable r → request_line names (32 ∷ request_text r) ≡ Ok r
unfolding request_line
request-read names r h =
    let a : IsAsked names r = asked-of names r h in
    ap (λ t. request_by names (first_word (32 ∷ t))) a.text
    ∙ ap (request_by names) (first-word-behind a.word a.rest a.is_word a.stops) ∙ a.read
