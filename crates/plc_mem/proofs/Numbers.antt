-- The number at a place: the sum over its bits is the number that its bytes give.
use Rattle.std.proofs.Common.{◌≡◌, ℕ, zero, suc, ◌+◌, ◌-◌, ◌*◌, ◌/◌, ◌%◌, ◌^◌, ◌<◌, ◌≤◌, List, length, refl, sym, ap, ◌∙◌, arith, Option, Some, None, Bool, true, false, nat_eq, nat_lt, slice_get, slice_index, ◌⊎◌, inl, inr, if◌then◌else◌, ◌&&◌, add-zero, lit<}
use Rattle.std.proofs.lemmas.Bool.Decides.{nat_tests}
use Rattle.std.specs.Int.{bit_at}
use Rattle.std.specs.Option.{option_map, option_and_then}
use Rattle.std.proofs.lemmas.Nat.{mod-pow-add}
use Rattle.std.proofs.lemmas.Nat.Bits.{bit_at-lt, bit_at_cat_low, bit_at_cat_high}
use Rattle.std.proofs.lemmas.Bool.{lt-ltb, ltb-true, and_parts}
use Rattle.std.proofs.lemmas.Option.{slice_get-get_or, slice_get_past}
use Rattle.plc_base.specs.declared.Width.{Width}
use Rattle.plc_base.specs.declared.Width.TheVariants.{Bit, Byte, Word, Dword}
use Rattle.plc_base.specs.declared.Place.{Place}
use Rattle.plc_mem.specs.Areas.{Areas, PeripheralBytes}
use Rattle.plc_mem.specs.Run.{number_over, operand_bit_of, number_of_bytes}
use Rattle.plc_mem.specs.Writing.{is_within}
use Rattle.plc_mem.specs.Bits.{is_bit_one, bit_of_byte, bit_at as place_bit, region_byte, peripheral_byte}
use Rattle.plc_mem.specs.Number.{weights_of, plus_weight, number_at_place, region_number, region_read}

-- sums of the same bits are the same
pub weights_same : (f g : ℕ → Option Bool) (n : ℕ) → ((j : ℕ) → j < n → f j ≡ g j) → weights_of f n ≡ weights_of g n
unfolding weights_of
weights_same f g zero same = refl
weights_same f g (suc n) same =
    ap (λ (o : Option ℕ). plus_weight n o (f n)) (weights_same f g n (λ j h. same j (omega arith)))
    ∙ ap (plus_weight n (weights_of g n)) (same n (omega arith))

no_bit : (j : ℕ) (o : Option ℕ) → plus_weight j o None ≡ None
no_bit j (Some n) = refl
no_bit j None = refl

last_or_before : (i n : ℕ) → i < suc n → (i ≡ n) ⊎ (i < n)
last_or_before i n h = grind arith

-- where a bit doesn't exist there is no sum
pub weights_none : (f : ℕ → Option Bool) (n i : ℕ) → i < n → f i ≡ None → weights_of f n ≡ None
unfolding weights_of
weights_none f zero i h none = absurd (omega arith)
weights_none f (suc n) i h none =
    elim (last_or_before i n h) [
      | inl e ↦ ap (plus_weight n (weights_of f n)) (ap f (sym e) ∙ none) ∙ no_bit n (weights_of f n)
      | inr before ↦ ap (λ (o : Option ℕ). plus_weight n o (f n)) (weights_none f n i before none)
    ]

more_bits : (v n b : ℕ) → b ≡ bit_at v n → v % 2 ^ n + b * 2 ^ n ≡ v % 2 ^ suc n
more_bits v n b e =
    let sum : v % 2 ^ (1 + n) ≡ bit_at v n * 2 ^ n + v % 2 ^ n = mod-pow-add v 1 n in
    let one_more : suc n ≡ 1 + n = omega arith in
    ap (λ (d : ℕ). v % 2 ^ n + d * 2 ^ n) e ∙ omega (arith, sum, ap (λ (k : ℕ). v % 2 ^ k) one_more)

-- one more bit
weight_step : (v n b : ℕ) → b ≡ bit_at v n → b < 2 → plus_weight n (Some (v % 2 ^ n)) (Some (nat_eq b 1)) ≡ Some (v % 2 ^ suc n)
weight_step v n zero e h = ap Some (omega (arith, more_bits v n 0 e))
weight_step v n (suc zero) e h = ap Some (omega (arith, more_bits v n 1 e))
weight_step v n (suc (suc b)) e h = absurd (omega arith)

-- the bits of a number weigh that number
pub weights_value : (f : ℕ → Option Bool) (v n : ℕ) → ((j : ℕ) → j < n → f j ≡ Some (is_bit_one v j)) → weights_of f n ≡ Some (v % 2 ^ n)
unfolding weights_of
weights_value f v zero bits = ap Some (omega arith)
weights_value f v (suc n) bits =
    ap (λ (o : Option ℕ). plus_weight n o (f n)) (weights_value f v n (λ j h. bits j (omega arith)))
    ∙ ap (plus_weight n (Some (v % 2 ^ n))) (bits n (omega arith))
    ∙ weight_step v n (bit_at v n) refl (bit_at-lt v n)

-- ---- bytes, the highest first

-- the number in k bytes from `at`, the highest byte first
abbrev pub bytes_value : (ℕ → ℕ) → (at k : ℕ) → ℕ
bytes_value g at zero = 0
bytes_value g at (suc k) = bytes_value g at k * 2 ^ 8 + g (at + k)

-- bit j of the number in k bytes from `at`, the highest byte first
abbrev pub byte_bit : (ℕ → Option ℕ) → (at k j : ℕ) → Option Bool
byte_bit f at k j = bit_of_byte (f (at + (k - 1 - j / 8))) (j % 8)

pub bit_in_some : (byte k : ℕ) → k < 8 → bit_of_byte (Some byte) k ≡ Some (is_bit_one byte k)
bit_in_some byte k h = rw (lt-ltb k 8 h) refl

low_bit : (f : ℕ → Option ℕ) (above low at k : ℕ) → f (at + k) ≡ Some low → (j : ℕ) → j < 8 → byte_bit f at (suc k) j ≡ Some (is_bit_one (above * 2 ^ 8 + low) j)
low_bit f above low at k there j h =
    let last : at + (suc k - 1 - j / 8) ≡ at + k = omega arith in
    let bit : j % 8 ≡ j = omega arith in
    ap (λ (i : ℕ). bit_of_byte (f i) (j % 8)) last
    ∙ ap (λ (o : Option ℕ). bit_of_byte o (j % 8)) there
    ∙ ap (bit_of_byte (Some low)) bit
    ∙ bit_in_some low j h
    ∙ ap (λ (b : ℕ). Some (nat_eq b 1)) (sym (bit_at_cat_low above 8 low j h))

high_bit : (f : ℕ → Option ℕ) (above low at k : ℕ) → low < 256 → (j : ℕ) → 8 ≤ j → byte_bit f at k (j - 8) ≡ Some (is_bit_one above (j - 8)) → byte_bit f at (suc k) j ≡ Some (is_bit_one (above * 2 ^ 8 + low) j)
high_bit f above low at k small j h before =
    let same : suc k - 1 - j / 8 ≡ k - 1 - (j - 8) / 8 = omega arith in
    let bit : j % 8 ≡ (j - 8) % 8 = omega arith in
    ap (λ (i : ℕ). bit_of_byte (f (at + i)) (j % 8)) same
    ∙ ap (bit_of_byte (f (at + (k - 1 - (j - 8) / 8)))) bit
    ∙ before
    ∙ ap (λ (b : ℕ). Some (nat_eq b 1)) (sym (bit_at_cat_high above 8 low j small h))

low_or_high : (j : ℕ) → (j < 8) ⊎ (8 ≤ j)
low_or_high j = grind arith

pub byte_bits : (f : ℕ → Option ℕ) (g : ℕ → ℕ) (at k : ℕ) → ((i : ℕ) → i < k → g (at + i) < 256) → ((i : ℕ) → i < k → f (at + i) ≡ Some (g (at + i))) → (j : ℕ) → j < 8 * k → byte_bit f at k j ≡ Some (is_bit_one (bytes_value g at k) j)
byte_bits f g at zero small there j h = absurd (omega arith)
byte_bits f g at (suc k) small there j h =
    elim (low_or_high j) [
      | inl low ↦ low_bit f (bytes_value g at k) (g (at + k)) at k (there k (omega arith)) j low
      | inr high ↦
          high_bit f (bytes_value g at k) (g (at + k)) at k (small k (omega arith)) j high
          (byte_bits f g at k (λ i below. small i (omega arith)) (λ i below. there i (omega arith)) (j - 8) (omega arith))
    ]

-- ---- operands

-- the number of a place is that of its region's bytes
pub number_at_bytes : (m : Areas) (place : Place) (width : Width) → number_at_place m place width ≡ option_and_then (λ region. number_over (region_byte m region) place.byte place.bit width) (region_read place)
unfolding number_at_place region_number number_over place_bit
number_at_bytes m place Bit = refl
number_at_bytes m place Byte = refl
number_at_bytes m place Word = refl
number_at_bytes m place Dword = refl

pub one_false : (a b : Bool) → (a && b) ≡ false → (a ≡ false) ⊎ (b ≡ false)
one_false true b e = inr e
one_false false b e = inl refl

pub no_byte : (b : Bool) (k : ℕ) → if◌then◌else◌ b (option_map (λ (n : ℕ). is_bit_one n k) None) None ≡ None
no_byte true k = refl
no_byte false k = refl

pub stands : (bytes : List ℕ) (at k : ℕ) → at + k ≤ length bytes → (i : ℕ) → i < k → slice_get bytes (at + i) ≡ Some (slice_index bytes (at + i))
stands bytes at k within i h = slice_get-get_or bytes (at + i) 0 (omega arith)

-- a bit alone weighs 1
lone_bit : (b : ℕ) → b < 2 → plus_weight 0 (Some 0) (Some (nat_eq b 1)) ≡ Some b
lone_bit zero h = refl
lone_bit (suc zero) h = refl
lone_bit (suc (suc b)) h = absurd (omega arith)

-- the number of an operand that lies within a run
pub run_number : (bytes : List ℕ) (at bit : ℕ) (width : Width) → ((i : ℕ) → slice_index bytes i < 256) → is_within bytes at bit width ≡ true → number_over (slice_get bytes) at bit width ≡ Some (number_of_bytes bytes at bit width)
unfolding number_over weights_of
run_number bytes at bit Bit small within =
    let tests = and_parts _ _ within in
    let here : at < length bytes = ltb-true _ _ tests.0 in
    let low : bit < 8 = ltb-true _ _ tests.1 in
    let found : bit_of_byte (slice_get bytes at) bit ≡ Some (is_bit_one (slice_index bytes at) bit) =
    ap (λ (o : Option ℕ). bit_of_byte o bit) (slice_get-get_or bytes at 0 here) ∙ bit_in_some (slice_index bytes at) bit low in
    ap (plus_weight 0 (Some 0)) found ∙ lone_bit (bit_at (slice_index bytes at) bit) (bit_at-lt (slice_index bytes at) bit)
run_number bytes at bit Byte small within =
    let room : at + 1 ≤ length bytes = grind (arith, nat_tests) in
    weights_value (operand_bit_of (slice_get bytes) at bit Byte) (bytes_value (slice_index bytes) at 1) 8 (byte_bits (slice_get bytes) (slice_index bytes) at 1 (λ i h. small (at + i)) (stands bytes at 1 room))
    ∙ ap Some (omega (arith, small at, ap (slice_index bytes) (add-zero at)))
run_number bytes at bit Word small within =
    let room : at + 2 ≤ length bytes = grind (arith, nat_tests) in
    weights_value (operand_bit_of (slice_get bytes) at bit Word) (bytes_value (slice_index bytes) at 2) 16 (byte_bits (slice_get bytes) (slice_index bytes) at 2 (λ i h. small (at + i)) (stands bytes at 2 room))
    ∙ ap Some (omega (arith, small at, small (at + 1), ap (slice_index bytes) (add-zero at)))
run_number bytes at bit Dword small within =
    let room : at + 4 ≤ length bytes = grind (arith, nat_tests) in
    weights_value (operand_bit_of (slice_get bytes) at bit Dword) (bytes_value (slice_index bytes) at 4) 32 (byte_bits (slice_get bytes) (slice_index bytes) at 4 (λ i h. small (at + i)) (stands bytes at 4 room))
    ∙ ap Some (omega (arith, small at, small (at + 1), small (at + 2), small (at + 3), ap (slice_index bytes) (add-zero at)))

-- where an operand's first byte doesn't exist, or its last, it has no number
pub over_none : (bytes : ℕ → Option ℕ) (at bit : ℕ) (width : Width) → bytes at ≡ None → number_over bytes at bit width ≡ None
unfolding number_over
over_none bytes at bit Bit none = weights_none (operand_bit_of bytes at bit Bit) 1 0 (lit< tt) (ap (λ (o : Option ℕ). bit_of_byte o bit) none ∙ no_byte (nat_lt bit 8) bit)
over_none bytes at bit Byte none = weights_none (operand_bit_of bytes at bit Byte) 8 0 (lit< tt) (ap (λ (i : ℕ). bit_of_byte (bytes i) 0) (add-zero at) ∙ ap (λ (o : Option ℕ). bit_of_byte o 0) none)
over_none bytes at bit Word none = weights_none (operand_bit_of bytes at bit Word) 16 8 (lit< tt) (ap (λ (i : ℕ). bit_of_byte (bytes i) 0) (add-zero at) ∙ ap (λ (o : Option ℕ). bit_of_byte o 0) none)
over_none bytes at bit Dword none = weights_none (operand_bit_of bytes at bit Dword) 32 24 (lit< tt) (ap (λ (i : ℕ). bit_of_byte (bytes i) 0) (add-zero at) ∙ ap (λ (o : Option ℕ). bit_of_byte o 0) none)

-- an operand that doesn't lie within a run has none
pub run_none : (bytes : List ℕ) (at bit : ℕ) (width : Width) → is_within bytes at bit width ≡ false → number_over (slice_get bytes) at bit width ≡ None
unfolding number_over
run_none bytes at bit Bit without =
    weights_none (operand_bit_of (slice_get bytes) at bit Bit) 1 0 (lit< tt)
    (elim (one_false (nat_lt at (length bytes)) (nat_lt bit 8) without) [
      | inl past ↦ let far : length bytes ≤ at = grind (arith, nat_tests) in ap (λ (o : Option ℕ). bit_of_byte o bit) (slice_get_past bytes at far) ∙ no_byte (nat_lt bit 8) bit
      | inr high ↦ rw high refl
    ])
run_none bytes at bit Byte without =
    let past : length bytes ≤ at + (1 - 1 - 0 / 8) = grind (arith, nat_tests) in
    weights_none (operand_bit_of (slice_get bytes) at bit Byte) 8 0 (lit< tt) (ap (λ (o : Option ℕ). bit_of_byte o 0) (slice_get_past bytes (at + (1 - 1 - 0 / 8)) past))
run_none bytes at bit Word without =
    let past : length bytes ≤ at + (2 - 1 - 0 / 8) = grind (arith, nat_tests) in
    weights_none (operand_bit_of (slice_get bytes) at bit Word) 16 0 (lit< tt) (ap (λ (o : Option ℕ). bit_of_byte o 0) (slice_get_past bytes (at + (2 - 1 - 0 / 8)) past))
run_none bytes at bit Dword without =
    let past : length bytes ≤ at + (4 - 1 - 0 / 8) = grind (arith, nat_tests) in
    weights_none (operand_bit_of (slice_get bytes) at bit Dword) 32 0 (lit< tt) (ap (λ (o : Option ℕ). bit_of_byte o 0) (slice_get_past bytes (at + (4 - 1 - 0 / 8)) past))

-- operands of the same four bytes have the same number
pub over_same : (f g : ℕ → Option ℕ) (at here bit : ℕ) (width : Width) → ((i : ℕ) → i < 4 → f (at + i) ≡ g (here + i)) → number_over f at bit width ≡ number_over g here bit width
unfolding number_over
over_same f g at here bit Bit same =
    weights_same (operand_bit_of f at bit Bit) (operand_bit_of g here bit Bit) 1
    (λ j h. ap (λ (o : Option ℕ). bit_of_byte o bit) (ap f (sym (add-zero at)) ∙ same 0 (lit< tt) ∙ ap g (add-zero here)))
over_same f g at here bit Byte same =
    weights_same (operand_bit_of f at bit Byte) (operand_bit_of g here bit Byte) 8 (λ j h. ap (λ (o : Option ℕ). bit_of_byte o (j % 8)) (same (1 - 1 - j / 8) (omega arith)))
over_same f g at here bit Word same =
    weights_same (operand_bit_of f at bit Word) (operand_bit_of g here bit Word) 16 (λ j h. ap (λ (o : Option ℕ). bit_of_byte o (j % 8)) (same (2 - 1 - j / 8) (omega arith)))
over_same f g at here bit Dword same =
    weights_same (operand_bit_of f at bit Dword) (operand_bit_of g here bit Dword) 32 (λ j h. ap (λ (o : Option ℕ). bit_of_byte o (j % 8)) (same (4 - 1 - j / 8) (omega arith)))

far_or_near : (at : ℕ) → (at ≤ 252) ⊎ (252 < at)
far_or_near at = grind arith

-- operands of the lower part of a peripheral area, and of its upper part
pub low_number : (p : PeripheralBytes) (at bit : ℕ) (width : Width) → length p.low ≤ 252 → at < 256 → number_over (peripheral_byte p) at bit width ≡ number_over (slice_get p.low) at bit width
low_number p at bit width short low =
    elim (far_or_near at) [
      | inl near ↦
          over_same (peripheral_byte p) (slice_get p.low) at at bit width
          (λ i h. let below : nat_lt (at + i) 256 ≡ true = grind (arith, nat_tests) in rw below refl)
      | inr far ↦
          let past : slice_get p.low at ≡ None = slice_get_past p.low at (omega arith) in
          let below : nat_lt at 256 ≡ true = lt-ltb at 256 low in
          over_none (peripheral_byte p) at bit width (rw below past) ∙ sym (over_none (slice_get p.low) at bit width past)
    ]

pub high_number : (p : PeripheralBytes) (at bit : ℕ) (width : Width) → 256 ≤ at → number_over (peripheral_byte p) at bit width ≡ number_over (slice_get p.high) (at - 256) bit width
high_number p at bit width high =
    over_same (peripheral_byte p) (slice_get p.high) at (at - 256) bit width
    (λ i h. let above : nat_lt (at + i) 256 ≡ false = grind (arith, nat_tests) in let there : at + i - 256 ≡ at - 256 + i = omega arith in rw above (ap (slice_get p.high) there))
