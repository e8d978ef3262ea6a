-- Variables as they are written, and read again.
use Rattle.std.proofs.Common.{◌≡◌, ◌≤◌, ◌<◌, ℕ, Bool, true, ◌&&◌, ◌||◌, List, [], ◌∷◌, ◌++◌, length, take, drop, Some, None, Ok, Err, refl, ap, sym, ◌∙◌, arith, decimal, codes, bytes_eq, if◌then◌else◌, append-nil}
use Rattle.std.specs.Char.{is_ascii_digit}
use Rattle.std.specs.List.{slice_split, prefix_len}
use Rattle.std.proofs.lemmas.Bool.Decides.{nat_tests}
use Rattle.plc_base.specs.declared.places.Area.{Area}
use Rattle.plc_base.specs.declared.places.Area.TheVariants.{P, I, Q, M, Db, Di, L}
use Rattle.plc_base.specs.declared.places.Width.{Width}
use Rattle.plc_base.specs.declared.places.Width.TheVariants.{Bit, Byte, Word, Dword}
use Rattle.var_access.specs.declared.requests.Var.{Var}
use Rattle.plc_base.specs.Texts.{is_blank}
use Rattle.var_access.specs.Readings.{Reading, both_readings, reading_map, number_reading, address_number, behind_blanks}
use Rattle.var_access.specs.Variables.{Names, is_letter, leading_letters, behind_letters, area_of_letters, width_of_letters, wide_of, db_width_of, var_at, wide_var, bit_var, block_var, block_bit, two_parts, var_of_parts, is_point, is_quote, var_of}
use Rattle.event_text.specs.HistoryText.{place_text, var_text}
use Rattle.event_text.proofs.AddressLemmas.{HasArea, HasBit, IsAddress}
use Rattle.event_text.proofs.ByteLemmas.{Each, each-append, each-weaker, Implies, Excludes, Stops, split-none, split-at, prefix-whole, prefix-none, take-front, drop-front}
use Rattle.event_text.proofs.NumberLemmas.{numeral, number-of, number_read}

-- ---- kinds of bytes

abbrev pub is_plain : ℕ → Bool
is_plain b = is_letter b || is_ascii_digit b

pub letter-plain : Implies is_letter is_plain
letter-plain b h = grind (arith, nat_tests)

pub digit-plain : Implies is_ascii_digit is_plain
digit-plain b h = grind (arith, nat_tests)

plain-point : Excludes is_plain is_point
plain-point b h = grind (arith, nat_tests)

digit-letter : Excludes is_ascii_digit is_letter
digit-letter b h = grind (arith, nat_tests)

digit-blank : Excludes is_ascii_digit is_blank
digit-blank b h = grind (arith, nat_tests)

letter-quote : Excludes is_letter is_quote
letter-quote b h = grind (arith, nat_tests)

pub digits-of : (n : ℕ) → n < 65536 → Each is_ascii_digit (decimal n)
digits-of n small = (numeral n (omega arith)).digits

stops-by : (q p : ℕ → Bool) → Excludes q p → (t : List ℕ) → Each q t → Stops p t
stops-by q p x [] h = tt
stops-by q p x (b ∷ t) h = x b h.0

-- ---- letters, and the number behind them

pub record IsLettered (text ls rest : List ℕ) : Type 0 where
  pub letters : leading_letters text ≡ ls
  pub behind : behind_letters text ≡ rest

blanks-none : (t : List ℕ) → Stops is_blank t → behind_blanks t ≡ t
unfolding behind_blanks
blanks-none t h = ap (λ n. drop n t) (prefix-none is_blank t h)

letters-then-number : (ls : List ℕ) (n : ℕ) → Each is_letter ls → n < 65536 → IsLettered (ls ++ decimal n) ls (decimal n)
letters-then-number ls n h small =
    let d : Each is_ascii_digit (decimal n) = digits-of n small in
    let len : prefix_len is_letter (ls ++ decimal n) ≡ length ls =
    prefix-whole is_letter ls (decimal n) h (stops-by is_ascii_digit is_letter digit-letter (decimal n) d) in
    record {
      letters = ap (λ k. take k (ls ++ decimal n)) len ∙ take-front ls (decimal n);
      behind = ap (λ k. behind_blanks (drop k (ls ++ decimal n))) len ∙ ap behind_blanks (drop-front ls (decimal n))
          ∙ blanks-none (decimal n) (stops-by is_ascii_digit is_blank digit-blank (decimal n) d);
    }

plain-text : (ls : List ℕ) (n : ℕ) → Each is_letter ls → n < 65536 → Each is_plain (ls ++ decimal n)
plain-text ls n h small =
    each-append is_plain ls (decimal n) (each-weaker is_letter is_plain letter-plain ls h)
    (each-weaker is_ascii_digit is_plain digit-plain (decimal n) (digits-of n small))

by-points : (names : Names) (b : ℕ) (t : List ℕ) → is_letter b ≡ true → var_of names (b ∷ t) ≡ var_of_parts (slice_split is_point (b ∷ t))
unfolding var_of
by-points names b t h = rw (letter-quote b h) refl

-- ---- the four forms

wide-read : (names : Names) (area : Area) (width : Width) (b : ℕ) (ls : List ℕ) (n : ℕ) → Each is_letter (b ∷ ls)
    → wide_of (b ∷ ls) ≡ Some (area, width) → n < 65536
    → var_of names (b ∷ ls ++ decimal n) ≡ Ok (var_at area 0 n 0 width)
wide-read names area width b ls n h is small =
    let l : IsLettered (b ∷ ls ++ decimal n) (b ∷ ls) (decimal n) = letters-then-number (b ∷ ls) n h small in
    by-points names b (ls ++ decimal n) h.0
    ∙ ap var_of_parts (split-none is_plain is_point plain-point (b ∷ ls ++ decimal n) (plain-text (b ∷ ls) n h small))
    ∙ ap (λ x. wide_var (wide_of x) (behind_letters (b ∷ ls ++ decimal n))) l.letters
    ∙ ap (λ x. wide_var x (behind_letters (b ∷ ls ++ decimal n))) is
    ∙ ap (λ x. wide_var (Some (area, width)) x) l.behind
    ∙ ap (λ r. reading_map (λ m. var_at area 0 m 0 width) r) (number-of n small)

bit-of : (k : ℕ) → k ≤ 7 → number_reading 0 7 2 (decimal k) ≡ Ok k
bit-of k few = number_read 0 7 2 k (omega arith) (omega arith) few

pub both-read : {A B : Type 0} (x : Reading A) (y : Reading B) (a : A) (c : B) → x ≡ Ok a → y ≡ Ok c → both_readings x y ≡ Ok (a, c)
both-read x y a c e f = ap (λ u. both_readings u y) e ∙ ap (λ u. both_readings (Ok a) u) f

point-cut : (s t : List ℕ) → Each is_plain s → Each is_plain t → slice_split is_point (s ++ 46 ∷ t) ≡ s ∷ t ∷ []
point-cut s t h k =
    split-at is_plain is_point plain-point s 46 t h refl ∙ ap (λ ps. s ∷ ps) (split-none is_plain is_point plain-point t k)

bit-read : (names : Names) (area : Area) (b n k : ℕ) → is_letter b ≡ true → area_of_letters (b ∷ []) ≡ Some area → n < 65536 → k ≤ 7
    → var_of names (b ∷ decimal n ++ 46 ∷ decimal k) ≡ Ok (var_at area 0 n k Bit)
bit-read names area b n k h is small few =
    let l : IsLettered (b ∷ decimal n) (b ∷ []) (decimal n) = letters-then-number (b ∷ []) n (h, tt) small in
    by-points names b (decimal n ++ 46 ∷ decimal k) h
    ∙ ap var_of_parts (point-cut (b ∷ decimal n) (decimal k) (plain-text (b ∷ []) n (h, tt) small) (plain-text [] k tt (omega arith)))
    ∙ ap (λ x. two_parts (area_of_letters x) (b ∷ decimal n) (decimal k)) l.letters
    ∙ ap (λ x. two_parts x (b ∷ decimal n) (decimal k)) is
    ∙ ap (λ x. bit_var area x (decimal k)) l.behind
    ∙ ap (λ r. reading_map (λ m. var_at area 0 m.0 m.1 Bit) r) (both-read (address_number (decimal n)) (number_reading 0 7 2 (decimal k)) n k (number-of n small) (bit-of k few))

db : List ℕ
db = 68 ∷ 66 ∷ []

no-area : area_of_letters (68 ∷ 66 ∷ []) ≡ None
unfolding area_of_letters
no-area = refl

block-read : (names : Names) (width : Width) (c : ℕ) (m n : ℕ) → is_letter c ≡ true
    → db_width_of (68 ∷ 66 ∷ c ∷ []) ≡ Some width → m < 65536 → n < 65536
    → var_of names (68 ∷ 66 ∷ decimal m ++ 46 ∷ 68 ∷ 66 ∷ c ∷ decimal n) ≡ Ok (var_at Db m n 0 width)
block-read names width c m n h is ms ns =
    let l : IsLettered (68 ∷ 66 ∷ decimal m) (68 ∷ 66 ∷ []) (decimal m) = letters-then-number (68 ∷ 66 ∷ []) m (refl, (refl, tt)) ms in
    let r : IsLettered (68 ∷ 66 ∷ c ∷ decimal n) (68 ∷ 66 ∷ c ∷ []) (decimal n) = letters-then-number (68 ∷ 66 ∷ c ∷ []) n (refl, (refl, (h, tt))) ns in
    by-points names 68 (66 ∷ decimal m ++ 46 ∷ 68 ∷ 66 ∷ c ∷ decimal n) refl
    ∙ ap var_of_parts (point-cut (68 ∷ 66 ∷ decimal m) (68 ∷ 66 ∷ c ∷ decimal n) (plain-text (68 ∷ 66 ∷ []) m (refl, (refl, tt)) ms) (plain-text (68 ∷ 66 ∷ c ∷ []) n (refl, (refl, (h, tt))) ns))
    ∙ ap (λ x. two_parts (area_of_letters x) (68 ∷ 66 ∷ decimal m) (68 ∷ 66 ∷ c ∷ decimal n)) l.letters
    ∙ ap (λ x. two_parts x (68 ∷ 66 ∷ decimal m) (68 ∷ 66 ∷ c ∷ decimal n)) no-area
    ∙ ap (λ x. if bytes_eq x (codes "DB") then block_var (db_width_of (leading_letters (68 ∷ 66 ∷ c ∷ decimal n))) (behind_letters (68 ∷ 66 ∷ decimal m)) (behind_letters (68 ∷ 66 ∷ c ∷ decimal n)) else Err 1) l.letters
    ∙ ap (λ x. block_var (db_width_of x) (behind_letters (68 ∷ 66 ∷ decimal m)) (behind_letters (68 ∷ 66 ∷ c ∷ decimal n))) r.letters
    ∙ ap (λ x. block_var x (behind_letters (68 ∷ 66 ∷ decimal m)) (behind_letters (68 ∷ 66 ∷ c ∷ decimal n))) is
    ∙ ap (λ x. block_var (Some width) x (behind_letters (68 ∷ 66 ∷ c ∷ decimal n))) l.behind
    ∙ ap (λ x. block_var (Some width) (decimal m) x) r.behind
    ∙ ap (λ x. reading_map (λ p. var_at Db p.0 p.1 0 width) x) (both-read (address_number (decimal m)) (address_number (decimal n)) m n (number-of m ms) (number-of n ns))

block-bit-read : (names : Names) (m n k : ℕ) → m < 65536 → n < 65536 → k ≤ 7
    → var_of names (68 ∷ 66 ∷ decimal m ++ (46 ∷ 68 ∷ 66 ∷ 88 ∷ (decimal n ++ (46 ∷ decimal k)))) ≡ Ok (var_at Db m n k Bit)
block-bit-read names m n k ms ns few =
    let l : IsLettered (68 ∷ 66 ∷ decimal m) (68 ∷ 66 ∷ []) (decimal m) = letters-then-number (68 ∷ 66 ∷ []) m (refl, (refl, tt)) ms in
    let r : IsLettered (68 ∷ 66 ∷ 88 ∷ decimal n) (68 ∷ 66 ∷ 88 ∷ []) (decimal n) = letters-then-number (68 ∷ 66 ∷ 88 ∷ []) n (refl, (refl, (refl, tt))) ns in
    let first : List ℕ = 68 ∷ 66 ∷ decimal m in
    let second : List ℕ = 68 ∷ 66 ∷ 88 ∷ decimal n in
    by-points names 68 (66 ∷ decimal m ++ (46 ∷ (second ++ (46 ∷ decimal k)))) refl
    ∙ ap var_of_parts (split-at is_plain is_point plain-point first 46 (second ++ (46 ∷ decimal k)) (plain-text (68 ∷ 66 ∷ []) m (refl, (refl, tt)) ms) refl)
    ∙ ap (λ ps. var_of_parts (first ∷ ps)) (point-cut second (decimal k) (plain-text (68 ∷ 66 ∷ 88 ∷ []) n (refl, (refl, (refl, tt))) ns) (plain-text [] k tt (omega arith)))
    ∙ ap (λ x. if bytes_eq x (codes "DB") && bytes_eq (leading_letters second) (codes "DBX") then block_bit (behind_letters first) (behind_letters second) (decimal k) else Err 1) l.letters
    ∙ ap (λ x. if bytes_eq (68 ∷ 66 ∷ []) (codes "DB") && bytes_eq x (codes "DBX") then block_bit (behind_letters first) (behind_letters second) (decimal k) else Err 1) r.letters
    ∙ ap (λ x. block_bit x (behind_letters second) (decimal k)) l.behind
    ∙ ap (λ x. block_bit (decimal m) x (decimal k)) r.behind
    ∙ ap (λ x. reading_map (λ p. var_at Db p.0 p.1.0 p.1.1 Bit) x)
    (both-read (address_number (decimal m)) (both_readings (address_number (decimal n)) (number_reading 0 7 2 (decimal k))) m (n, k) (number-of m ms) (both-read (address_number (decimal n)) (number_reading 0 7 2 (decimal k)) n k (number-of n ns) (bit-of k few)))

-- ---- every place

abbrev right : Var → Reading Var
right v = Ok v

with-zeros : (area : Area) (number bit n : ℕ) (width : Width) → number ≡ 0 → bit ≡ 0 → right (var_at area 0 n 0 width) ≡ right (var_at area number n bit width)
with-zeros area number bit n width e f = ap (λ x. right (var_at area x n 0 width)) (sym e) ∙ ap (λ x. right (var_at area number n x width)) (sym f)

wide-is : (names : Names) (area : Area) (width : Width) (b c : ℕ) (number n bit : ℕ) → Each is_letter (b ∷ c ∷ [])
    → wide_of (b ∷ c ∷ []) ≡ Some (area, width) → n < 65536 → number ≡ 0 → bit ≡ 0
    → var_of names (b ∷ c ∷ decimal n ++ []) ≡ Ok (var_at area number n bit width)
wide-is names area width b c number n bit h is small e f =
    ap (λ t. var_of names (b ∷ c ∷ t)) (append-nil (decimal n)) ∙ wide-read names area width b (c ∷ []) n h is small ∙ with-zeros area number bit n width e f

bit-is : (names : Names) (area : Area) (b number n k : ℕ) → is_letter b ≡ true → area_of_letters (b ∷ []) ≡ Some area → n < 65536 → k ≤ 7 → number ≡ 0
    → var_of names (b ∷ decimal n ++ 46 ∷ decimal k) ≡ Ok (var_at area number n k Bit)
bit-is names area b number n k h is small few e =
    bit-read names area b n k h is small few ∙ ap (λ x. Ok (var_at area x n k Bit)) (sym e)

block-is : (names : Names) (width : Width) (c : ℕ) (m n bit : ℕ) → is_letter c ≡ true
    → db_width_of (68 ∷ 66 ∷ c ∷ []) ≡ Some width → m < 65536 → n < 65536 → bit ≡ 0
    → var_of names (68 ∷ 66 ∷ decimal m ++ (46 ∷ 68 ∷ 66 ∷ c ∷ (decimal n ++ []))) ≡ Ok (var_at Db m n bit width)
block-is names width c m n bit h is ms ns f =
    ap (λ t. var_of names (68 ∷ 66 ∷ decimal m ++ (46 ∷ 68 ∷ 66 ∷ c ∷ t))) (append-nil (decimal n))
    ∙ block-read names width c m n h is ms ns ∙ ap (λ x. Ok (var_at Db m n x width)) (sym f)

place_read : (names : Names) (area : Area) (number byte bit : ℕ) (width : Width)
    → number < 65536 → byte < 65536 → HasArea area number → HasBit width bit
    → var_of names (place_text area number byte bit width) ≡ Ok (var_at area number byte bit width)
unfolding area_of_letters width_of_letters
place_read names I number byte bit Bit ns bs a w = bit-is names I 73 number byte bit refl refl bs w a
place_read names I number byte bit Byte ns bs a w = wide-is names I Byte 73 66 number byte bit (refl, (refl, tt)) refl bs a w
place_read names I number byte bit Word ns bs a w = wide-is names I Word 73 87 number byte bit (refl, (refl, tt)) refl bs a w
place_read names I number byte bit Dword ns bs a w = wide-is names I Dword 73 68 number byte bit (refl, (refl, tt)) refl bs a w
place_read names Q number byte bit Bit ns bs a w = bit-is names Q 81 number byte bit refl refl bs w a
place_read names Q number byte bit Byte ns bs a w = wide-is names Q Byte 81 66 number byte bit (refl, (refl, tt)) refl bs a w
place_read names Q number byte bit Word ns bs a w = wide-is names Q Word 81 87 number byte bit (refl, (refl, tt)) refl bs a w
place_read names Q number byte bit Dword ns bs a w = wide-is names Q Dword 81 68 number byte bit (refl, (refl, tt)) refl bs a w
place_read names M number byte bit Bit ns bs a w = bit-is names M 77 number byte bit refl refl bs w a
place_read names M number byte bit Byte ns bs a w = wide-is names M Byte 77 66 number byte bit (refl, (refl, tt)) refl bs a w
place_read names M number byte bit Word ns bs a w = wide-is names M Word 77 87 number byte bit (refl, (refl, tt)) refl bs a w
place_read names M number byte bit Dword ns bs a w = wide-is names M Dword 77 68 number byte bit (refl, (refl, tt)) refl bs a w
place_read names Db number byte bit Bit ns bs a w = block-bit-read names number byte bit ns bs w
place_read names Db number byte bit Byte ns bs a w = block-is names Byte 66 number byte bit refl refl ns bs w
place_read names Db number byte bit Word ns bs a w = block-is names Word 87 number byte bit refl refl ns bs w
place_read names Db number byte bit Dword ns bs a w = block-is names Dword 68 number byte bit refl refl ns bs w
place_read names P number byte bit width ns bs a w = absurd a
place_read names Di number byte bit width ns bs a w = absurd a
place_read names L number byte bit width ns bs a w = absurd a

pub var_read : (names : Names) (v : Var) → IsAddress v → var_of names (var_text v) ≡ Ok v
unfolding var_text
var_read names v h = place_read names v.place.area v.place.number v.place.byte v.place.bit v.width h.number h.byte h.area h.bit
