-- A number in an operand of a run: its bits, and the other bits of the run.
use Rattle.std.proofs.Common.{◌≡◌, ◌≢◌, ℕ, zero, suc, ◌+◌, ◌-◌, ◌*◌, ◌/◌, ◌%◌, ◌^◌, ◌<◌, ◌≤◌, List, length, refl, sym, ap, ◌∙◌, subst, arith, Option, Some, None, Bool, true, false, nat_eq, nat_lt, nat_le, slice_get, slice_index, slice_set, ◌⊎◌, inl, inr, if◌then◌else◌, ◌&&◌, add-zero}
use Rattle.std.specs.Int.{bit_at}
use Rattle.std.specs.Option.{option_map}
use Rattle.std.proofs.lemmas.List.{length-set, get_or-set_same, get_or-set_other}
use Rattle.std.proofs.lemmas.Option.{slice_get-get_or, slice_get_past}
use Rattle.std.proofs.lemmas.Bool.{ltb-true, leb-true, and_parts}
use Rattle.std.proofs.lemmas.Bool.Decides.{nat_tests}
use Rattle.std.proofs.lemmas.Nat.Bits.{bit_at_cat_low, bit_at_cat_high, bit_at_lowest}
use Rattle.std.proofs.Math.Nat.{div-add-mod, mod-lt, mod-eq_of_lt}
use Rattle.std.proofs.lemmas.Nat.{pow_pos}
use Rattle.plc_base.specs.declared.Width.{Width}
use Rattle.plc_base.specs.declared.Width.TheVariants.{Bit, Byte, Word, Dword}
use Rattle.plc_mem.specs.Bits.{is_bit_one, bit_of_byte}
use Rattle.plc_base.specs.Widths.{bit_count, byte_count}
use Rattle.plc_mem.specs.Run.{number_over, operand_bit_of}
use Rattle.plc_mem.specs.Writing.{is_within, bytes_with_number, byte_with_bit}
use Rattle.plc_mem.specs.WrittenBits.{weight_in, value_of_bit}
use Rattle.plc_mem.proofs.Numbers.{byte_bits, byte_bit, weights_value, stands, bit_in_some}

-- ---- one bit of a byte

-- a number as its bits from k on, and those below
number_in_parts : (n k : ℕ) → n ≡ n / 2 ^ k * 2 ^ k + n % 2 ^ k
number_in_parts n k = omega (arith, div-add-mod n (2 ^ k))

-- byte_with_bit, in parts: the bits above k, the new bit, the bits below
with_bit_parts : (n k v : ℕ) → byte_with_bit n k v ≡ (n / 2 ^ k / 2 * 2 ^ 1 + v) * 2 ^ k + n % 2 ^ k
with_bit_parts n k v =
    let q : n / 2 ^ k ≡ n / 2 ^ k / 2 * 2 + n / 2 ^ k % 2 = omega arith in
    omega (arith, number_in_parts n k, ap (λ (x : ℕ). x * 2 ^ k) q)

below_pow : (n k : ℕ) → n % 2 ^ k < 2 ^ k
below_pow n k = mod-lt n (pow_pos k)

same_bit_above : (h a b j : ℕ) → a < 2 → b < 2 → 1 ≤ j → bit_at (h * 2 ^ 1 + a) j ≡ bit_at (h * 2 ^ 1 + b) j
same_bit_above h a b j ha hb above = bit_at_cat_high h 1 a j ha above ∙ sym (bit_at_cat_high h 1 b j hb above)

below_or_above : (i k : ℕ) → i ≢ k → (i < k) ⊎ (k < i)
below_or_above i k other = grind arith

-- the bit itself
pub with_bit_same : (n k v : ℕ) → v < 2 → bit_at (byte_with_bit n k v) k ≡ v
with_bit_same n k v small =
    let above = n / 2 ^ k / 2 * 2 ^ 1 + v in
    let here : k - k ≡ 0 = omega arith in
    ap (λ (x : ℕ). bit_at x k) (with_bit_parts n k v)
    ∙ bit_at_cat_high above k (n % 2 ^ k) k (below_pow n k) (omega arith)
    ∙ ap (bit_at above) here
    ∙ bit_at_lowest above
    ∙ omega arith

-- each other bit
pub with_bit_other : (n k v i : ℕ) → v < 2 → i ≢ k → bit_at (byte_with_bit n k v) i ≡ bit_at n i
with_bit_other n k v i small other =
    elim (below_or_above i k other) [
      | inl below ↦
          ap (λ (x : ℕ). bit_at x i) (with_bit_parts n k v)
          ∙ bit_at_cat_low (n / 2 ^ k / 2 * 2 ^ 1 + v) k (n % 2 ^ k) i below
          ∙ sym (ap (λ (x : ℕ). bit_at x i) (number_in_parts n k) ∙ bit_at_cat_low (n / 2 ^ k) k (n % 2 ^ k) i below)
      | inr above ↦
          let halves : n / 2 ^ k ≡ n / 2 ^ k / 2 * 2 ^ 1 + n / 2 ^ k % 2 = omega arith in
          ap (λ (x : ℕ). bit_at x i) (with_bit_parts n k v)
          ∙ bit_at_cat_high (n / 2 ^ k / 2 * 2 ^ 1 + v) k (n % 2 ^ k) i (below_pow n k) (omega arith)
          ∙ same_bit_above (n / 2 ^ k / 2) v (n / 2 ^ k % 2) (i - k) small (omega arith) (omega arith)
          ∙ sym (ap (λ (x : ℕ). bit_at x i) (number_in_parts n k) ∙ bit_at_cat_high (n / 2 ^ k) k (n % 2 ^ k) i (below_pow n k) (omega arith) ∙ ap (λ (x : ℕ). bit_at x (i - k)) halves)
    ]

-- ---- the bytes of a run

within_or_past : (n : ℕ) (xs : List ℕ) → (n < length xs) ⊎ (length xs ≤ n)
within_or_past n xs = grind arith

-- a write leaves each other byte
pub set_other : (xs : List ℕ) (i n v : ℕ) → n ≢ i → slice_get (slice_set xs i v) n ≡ slice_get xs n
set_other xs i n v other =
    elim (within_or_past n xs) [
      | inl within ↦
          slice_get-get_or (slice_set xs i v) n 0 (simp length-set within)
          ∙ ap Some (get_or-set_other xs i n v 0 other)
          ∙ sym (slice_get-get_or xs n 0 within)
      | inr past ↦ slice_get_past (slice_set xs i v) n (simp length-set past) ∙ sym (slice_get_past xs n past)
    ]

-- a run keeps its length
pub length-stored : (bytes : List ℕ) (at bit : ℕ) (width : Width) (value : ℕ) → length (bytes_with_number bytes at bit width value) ≡ length bytes
length-stored bytes at bit Bit value = simp length-set
length-stored bytes at bit Byte value = simp length-set
length-stored bytes at bit Word value = simp length-set
length-stored bytes at bit Dword value = simp length-set

-- bytes outside the operand stay
pub stored_outside : (bytes : List ℕ) (at bit : ℕ) (width : Width) (value n : ℕ) → (n < at) ⊎ (at + byte_count width ≤ n) → slice_get (bytes_with_number bytes at bit width value) n ≡ slice_get bytes n
stored_outside bytes at bit Bit value n out = set_other bytes at n _ (grind arith)
stored_outside bytes at bit Byte value n out = set_other bytes at n _ (grind arith)
stored_outside bytes at bit Word value n out = set_other (slice_set bytes at (value / 2 ^ 8)) (at + 1) n _ (grind arith) ∙ set_other bytes at n _ (grind arith)
stored_outside bytes at bit Dword value n out =
    let one = slice_set bytes at (value / 2 ^ 24) in
    let two = slice_set one (at + 1) (value / 2 ^ 16 % 2 ^ 8) in
    let three = slice_set two (at + 2) (value / 2 ^ 8 % 2 ^ 8) in
    set_other three (at + 3) n _ (grind arith) ∙ set_other two (at + 2) n _ (grind arith) ∙ set_other one (at + 1) n _ (grind arith) ∙ set_other bytes at n _ (grind arith)

set_same : (xs : List ℕ) (i v : ℕ) → i < length xs → slice_get (slice_set xs i v) i ≡ Some v
set_same xs i v within = slice_get-get_or (slice_set xs i v) i 0 (simp length-set within) ∙ ap Some (get_or-set_same xs i v 0 within)

four_bytes : (g : ℕ → ℕ) (at : ℕ) → g at < 256 → g (at + 1) < 256 → g (at + 2) < 256 → g (at + 3) < 256 → (i : ℕ) → i < 4 → g (at + i) < 256
four_bytes g at a b c d zero h = subst (λ (x : ℕ). g x < 256) (sym (add-zero at)) a
four_bytes g at a b c d (suc zero) h = b
four_bytes g at a b c d (suc (suc zero)) h = c
four_bytes g at a b c d (suc (suc (suc zero))) h = d
four_bytes g at a b c d (suc (suc (suc (suc i)))) h = absurd (omega arith)

two_bytes : (g : ℕ → ℕ) (at : ℕ) → g at < 256 → g (at + 1) < 256 → (i : ℕ) → i < 2 → g (at + i) < 256
two_bytes g at a b zero h = subst (λ (x : ℕ). g x < 256) (sym (add-zero at)) a
two_bytes g at a b (suc zero) h = b
two_bytes g at a b (suc (suc i)) h = absurd (omega arith)

-- the bits of an operand after a write are those of the number
pub stored_bits :
    (bytes : List ℕ) (at bit : ℕ) (width : Width) (value : ℕ)
    → is_within bytes at bit width ≡ true
    → value < 2 ^ bit_count width
    → (j : ℕ)
    → j < bit_count width
    → operand_bit_of (slice_get (bytes_with_number bytes at bit width value)) at bit width j ≡ Some (is_bit_one value j)
stored_bits bytes at bit Bit value within fits j h =
    let tests = and_parts _ _ within in
    let here : at < length bytes = ltb-true at (length bytes) tests.0 in
    let low : bit < 8 = ltb-true bit 8 tests.1 in
    let first : j ≡ 0 = omega arith in
    let new = byte_with_bit (slice_index bytes at) bit value in
    ap (λ (o : Option ℕ). bit_of_byte o bit) (set_same bytes at new here)
    ∙ bit_in_some new bit low
    ∙ ap (λ (b : ℕ). Some (nat_eq b 1)) (with_bit_same (slice_index bytes at) bit value fits ∙ sym (ap (bit_at value) first ∙ bit_at_lowest value ∙ omega arith))
stored_bits bytes at bit Byte value within fits j h =
    let room : at + 1 ≤ length bytes = grind (arith, nat_tests) in
    let new = bytes_with_number bytes at bit Byte value in
    let g = slice_index new in
    let first : g at ≡ value = get_or-set_same bytes at value 0 (omega arith) in
    let byte : (i : ℕ) → i < 1 → g (at + i) < 256 = λ i below. (let start : at + i ≡ at = omega arith in subst (λ (x : ℕ). x < 256) (sym (ap g start ∙ first)) fits) in
    byte_bits (slice_get new) g at 1 byte (stands new at 1 (simp length-set room)) j h
    ∙ ap (λ (v : ℕ). Some (is_bit_one v j)) (omega (arith, first, ap g (add-zero at)))
stored_bits bytes at bit Word value within fits j h =
    let room : at + 2 ≤ length bytes = grind (arith, nat_tests) in
    let one = slice_set bytes at (value / 2 ^ 8) in
    let new = bytes_with_number bytes at bit Word value in
    let g = slice_index new in
    let second : g (at + 1) ≡ value % 2 ^ 8 = get_or-set_same one (at + 1) (value % 2 ^ 8) 0 (simp length-set (omega arith)) in
    let first : g at ≡ value / 2 ^ 8 =
    get_or-set_other one (at + 1) at (value % 2 ^ 8) 0 (grind arith) ∙ get_or-set_same bytes at (value / 2 ^ 8) 0 (omega arith) in
    let byte : (i : ℕ) → i < 2 → g (at + i) < 256 = two_bytes g at (omega arith) (omega arith) in
    byte_bits (slice_get new) g at 2 byte (stands new at 2 (simp length-set room)) j h
    ∙ ap (λ (v : ℕ). Some (is_bit_one v j)) (omega (arith, first, second, ap g (add-zero at)))
stored_bits bytes at bit Dword value within fits j h =
    let room : at + 4 ≤ length bytes = grind (arith, nat_tests) in
    let a = value / 2 ^ 24 in
    let b = value / 2 ^ 16 % 2 ^ 8 in
    let c = value / 2 ^ 8 % 2 ^ 8 in
    let d = value % 2 ^ 8 in
    let one = slice_set bytes at a in
    let two = slice_set one (at + 1) b in
    let three = slice_set two (at + 2) c in
    let new = bytes_with_number bytes at bit Dword value in
    let g = slice_index new in
    let fourth : g (at + 3) ≡ value % 2 ^ 8 = get_or-set_same three (at + 3) d 0 (simp length-set (omega arith)) in
    let third : g (at + 2) ≡ value / 2 ^ 8 % 2 ^ 8 =
    get_or-set_other three (at + 3) (at + 2) d 0 (grind arith) ∙ get_or-set_same two (at + 2) c 0 (simp length-set (omega arith)) in
    let second : g (at + 1) ≡ value / 2 ^ 16 % 2 ^ 8 =
    get_or-set_other three (at + 3) (at + 1) d 0 (grind arith) ∙ get_or-set_other two (at + 2) (at + 1) c 0 (grind arith)
    ∙ get_or-set_same one (at + 1) b 0 (simp length-set (omega arith)) in
    let first : g at ≡ value / 2 ^ 24 =
    get_or-set_other three (at + 3) at d 0 (grind arith) ∙ get_or-set_other two (at + 2) at c 0 (grind arith)
    ∙ get_or-set_other one (at + 1) at b 0 (grind arith)
    ∙ get_or-set_same bytes at a 0 (omega arith) in
    let byte : (i : ℕ) → i < 4 → g (at + i) < 256 = four_bytes g at (omega arith) (omega arith) (omega arith) (omega arith) in
    byte_bits (slice_get new) g at 4 byte (stands new at 4 (simp length-set room)) j h
    ∙ ap (λ (v : ℕ). Some (is_bit_one v j)) (omega (arith, first, second, third, fourth, ap g (add-zero at)))

-- and their sum is the number
pub stored_number :
    (bytes : List ℕ) (at bit : ℕ) (width : Width) (value : ℕ)
    → is_within bytes at bit width ≡ true
    → value < 2 ^ bit_count width
    → number_over (slice_get (bytes_with_number bytes at bit width value)) at bit width ≡ Some value
unfolding number_over
stored_number bytes at bit width value within fits =
    weights_value (operand_bit_of (slice_get (bytes_with_number bytes at bit width value)) at bit width) value (bit_count width) (stored_bits bytes at bit width value within fits)
    ∙ ap Some (mod-eq_of_lt fits)

pub kept_bit : (o : Option Bool) → o ≡ option_map (λ (x : Bool). x) o
kept_bit (Some x) = refl
kept_bit None = refl

pub no_such_bit : (o : Option ℕ) (b : ℕ) → 8 ≤ b → bit_of_byte o b ≡ None
no_such_bit o b high = let above : nat_lt b 8 ≡ false = grind (arith, nat_tests) in rw above refl

a_bit_or_none : (b : ℕ) → (b < 8) ⊎ (8 ≤ b)
a_bit_or_none b = grind arith

outside_test : (at n k : ℕ) → (nat_le at n && nat_lt n (at + k)) ≡ false → (n < at) ⊎ (at + k ≤ n)
outside_test at n k e = grind (arith, nat_tests)

-- a bit of an operand of k bytes, or of another byte
wide_after :
    (old new : List ℕ) (at k value : ℕ)
    → at + k ≤ length old
    → ((j : ℕ) → j < 8 * k → byte_bit (slice_get new) at k j ≡ Some (is_bit_one value j))
    → ((n : ℕ) → (n < at) ⊎ (at + k ≤ n) → slice_get new n ≡ slice_get old n)
    → (n b : ℕ)
    → b < 8
    → (inside : Bool)
    → (nat_le at n && nat_lt n (at + k)) ≡ inside
    → bit_of_byte (slice_get new n) b ≡ option_map (value_of_bit value (if◌then◌else◌ inside (Some (8 * (k - 1 - (n - at)) + b)) None)) (bit_of_byte (slice_get old n) b)
wide_after old new at k value room set others n b low true e =
    let tests = and_parts (nat_le at n) (nat_lt n (at + k)) e in
    let from : at ≤ n = leb-true at n tests.0 in
    let to : n < at + k = ltb-true n (at + k) tests.1 in
    let weight = 8 * (k - 1 - (n - at)) + b in
    let byte : at + (k - 1 - weight / 8) ≡ n = omega arith in
    let bit : weight % 8 ≡ b = omega arith in
    let there : bit_of_byte (slice_get old n) b ≡ Some (is_bit_one (slice_index old n) b) =
    ap (λ (o : Option ℕ). bit_of_byte o b) (slice_get-get_or old n 0 (omega arith)) ∙ bit_in_some (slice_index old n) b low in
    sym (ap (λ (i : ℕ). bit_of_byte (slice_get new i) (weight % 8)) byte ∙ ap (bit_of_byte (slice_get new n)) bit)
    ∙ set weight (omega arith)
    ∙ sym (ap (option_map (λ (_ : Bool). is_bit_one value weight)) there)
wide_after old new at k value room set others n b low false e =
    ap (λ (o : Option ℕ). bit_of_byte o b) (others n (outside_test at n k e)) ∙ kept_bit (bit_of_byte (slice_get old n) b)

-- a bit operand, or another bit
narrow_after :
    (old : List ℕ) (at bit value : ℕ)
    → at < length old
    → bit < 8
    → value < 2
    → (n b : ℕ)
    → b < 8
    → (here same : Bool)
    → nat_eq n at ≡ here
    → nat_eq b bit ≡ same
    → bit_of_byte (slice_get (slice_set old at (byte_with_bit (slice_index old at) bit value)) n) b ≡ option_map (value_of_bit value (if◌then◌else◌ (here && same) (Some 0) None)) (bit_of_byte (slice_get old n) b)
narrow_after old at bit value within low small n b byte false same e f =
    let other : n ≢ at = grind (arith, nat_tests) in
    ap (λ (o : Option ℕ). bit_of_byte o b) (set_other old at n _ other) ∙ kept_bit (bit_of_byte (slice_get old n) b)
narrow_after old at bit value within low small n b byte true true e f =
    let is : n ≡ at = grind (arith, nat_tests) in
    let its : b ≡ bit = grind (arith, nat_tests) in
    let there : bit_of_byte (slice_get old n) b ≡ Some (is_bit_one (slice_index old n) b) =
    ap (λ (o : Option ℕ). bit_of_byte o b) (slice_get-get_or old n 0 (omega arith)) ∙ bit_in_some (slice_index old n) b byte in
    let new = byte_with_bit (slice_index old at) bit value in
    ap (λ (i : ℕ). bit_of_byte (slice_get (slice_set old at new) i) b) is
    ∙ ap (bit_of_byte (slice_get (slice_set old at new) at)) its
    ∙ ap (λ (o : Option ℕ). bit_of_byte o bit) (set_same old at new within)
    ∙ bit_in_some new bit low
    ∙ ap (λ (x : ℕ). Some (nat_eq x 1)) (with_bit_same (slice_index old at) bit value small ∙ sym (bit_at_lowest value ∙ omega arith))
    ∙ sym (ap (option_map (λ (_ : Bool). is_bit_one value 0)) there)
narrow_after old at bit value within low small n b byte true false e f =
    let is : n ≡ at = grind (arith, nat_tests) in
    let other : b ≢ bit = grind (arith, nat_tests) in
    let there : bit_of_byte (slice_get old at) b ≡ Some (is_bit_one (slice_index old at) b) =
    ap (λ (o : Option ℕ). bit_of_byte o b) (slice_get-get_or old at 0 within) ∙ bit_in_some (slice_index old at) b byte in
    let new = byte_with_bit (slice_index old at) bit value in
    ap (λ (i : ℕ). bit_of_byte (slice_get (slice_set old at new) i) b) is
    ∙ ap (λ (o : Option ℕ). bit_of_byte o b) (set_same old at new within)
    ∙ bit_in_some new b byte
    ∙ ap (λ (x : ℕ). Some (nat_eq x 1)) (with_bit_other (slice_index old at) bit value b small other)
    ∙ sym there
    ∙ ap (λ (i : ℕ). bit_of_byte (slice_get old i) b) (sym is)
    ∙ kept_bit (bit_of_byte (slice_get old n) b)

low_after :
    (bytes : List ℕ) (at bit : ℕ) (width : Width) (value : ℕ)
    → is_within bytes at bit width ≡ true
    → value < 2 ^ bit_count width
    → (n b : ℕ)
    → b < 8
    → bit_of_byte (slice_get (bytes_with_number bytes at bit width value) n) b ≡ option_map (value_of_bit value (weight_in at bit width n b)) (bit_of_byte (slice_get bytes n) b)
low_after bytes at bit Bit value within fits n b low =
    let tests = and_parts (nat_lt at (length bytes)) (nat_lt bit 8) within in
    narrow_after bytes at bit value (ltb-true at (length bytes) tests.0) (ltb-true bit 8 tests.1) fits n b low (nat_eq n at) (nat_eq b bit) refl refl
low_after bytes at bit Byte value within fits n b low =
    wide_after bytes (bytes_with_number bytes at bit Byte value) at 1 value (grind (arith, nat_tests)) (stored_bits bytes at bit Byte value within fits) (stored_outside bytes at bit Byte value) n b low (nat_le at n && nat_lt n (at + 1)) refl
low_after bytes at bit Word value within fits n b low =
    wide_after bytes (bytes_with_number bytes at bit Word value) at 2 value (grind (arith, nat_tests)) (stored_bits bytes at bit Word value within fits) (stored_outside bytes at bit Word value) n b low (nat_le at n && nat_lt n (at + 2)) refl
low_after bytes at bit Dword value within fits n b low =
    wide_after bytes (bytes_with_number bytes at bit Dword value) at 4 value (grind (arith, nat_tests)) (stored_bits bytes at bit Dword value within fits) (stored_outside bytes at bit Dword value) n b low (nat_le at n && nat_lt n (at + 4)) refl

-- each bit of a run after a write: that of the number in the operand, else the one before
pub stored_after :
    (bytes : List ℕ) (at bit : ℕ) (width : Width) (value : ℕ)
    → is_within bytes at bit width ≡ true
    → value < 2 ^ bit_count width
    → (n b : ℕ)
    → bit_of_byte (slice_get (bytes_with_number bytes at bit width value) n) b ≡ option_map (value_of_bit value (weight_in at bit width n b)) (bit_of_byte (slice_get bytes n) b)
stored_after bytes at bit width value within fits n b =
    elim (a_bit_or_none b) [
      | inl low ↦ low_after bytes at bit width value within fits n b low
      | inr high ↦ no_such_bit (slice_get (bytes_with_number bytes at bit width value) n) b high ∙ sym (ap (option_map (value_of_bit value (weight_in at bit width n b))) (no_such_bit (slice_get bytes n) b high))
    ]
