-- Writes to runs, peripheral areas and data blocks, bit by bit.
use Rattle.std.proofs.Common.{◌≡◌, ℕ, ◌+◌, ◌-◌, ◌*◌, ◌^◌, ◌<◌, ◌≤◌, List, length, refl, sym, ap, ◌∙◌, subst, arith, Option, Some, None, Bool, true, false, nat_eq, nat_lt, nat_le, slice_get, ◌⊎◌, inl, inr, if◌then◌else◌, ◌&&◌, is_some, cond}
use Rattle.std.specs.Option.{option_map, option_and_then}
use Rattle.std.specs.FinMap as map
use Rattle.std.specs.FinMap.{get-insert, nat_cmp-IsAntisymmetric}
use Rattle.std.specs.Ordering.{nat_cmp, eq_by_cmp, is_eq}
use Rattle.std.specs.declared.cmp.Ordering.{Ordering}
use Rattle.std.specs.declared.cmp.Ordering.TheVariants.{Less, Equal, Greater}
use Rattle.std.specs.Cmp.{nat_cmp_total, tied_itself}
use Rattle.std.proofs.lemmas.Bool.{lt-ltb, ltb-true, leb-true, true≢false, and_parts}
use Rattle.std.proofs.lemmas.Bool.Decides.{nat_tests}
use Rattle.std.proofs.lemmas.Option.{same_Some}
use Rattle.plc_base.specs.declared.Width.{Width}
use Rattle.plc_base.specs.declared.Width.TheVariants.{Bit, Byte, Word, Dword}
use Rattle.plc_mem.specs.Areas.{PeripheralBytes}
use Rattle.plc_mem.specs.Bits.{bit_of_byte, peripheral_byte, block_byte}
use Rattle.plc_base.specs.Widths.{bit_count, byte_count}
use Rattle.plc_mem.specs.Run.{number_over}
use Rattle.plc_mem.specs.Writing.{is_within, bytes_with_number, put_number, put_peripheral, put_in_block}
use Rattle.plc_mem.specs.WrittenBits.{weight_in, value_of_bit}
use Rattle.plc_mem.proofs.Numbers.{low_number, high_number}
use Rattle.plc_mem.proofs.StoredNumbers.{stored_after, stored_number, length-stored, kept_bit}

pub none_some : {A : Type 0} (x : A) → None ≡ Some x → ⊥
none_some x e = cc

-- what stands in a mapped option
pub mapped_value : {A B : Type 0} (f : A → B) (o : Option A) (y : B) → option_map f o ≡ Some y → (x : A) × (o ≡ Some x) × (f x ≡ y)
mapped_value f (Some x) y e = (x, refl, same_Some (f x) y e)
mapped_value f None y e = absurd (cc)

pub chained_value : {A B : Type 0} (f : A → Option B) (o : Option A) (y : B) → option_and_then f o ≡ Some y → (x : A) × (o ≡ Some x) × (f x ≡ Some y)
chained_value f (Some x) y e = (x, refl, e)
chained_value f None y e = absurd (cc)

put_cases : (bytes new : List ℕ) (at bit : ℕ) (width : Width) (value : ℕ) (within : Bool) → is_within bytes at bit width ≡ within → cond within (Some (bytes_with_number bytes at bit width value)) None ≡ Some new → (is_within bytes at bit width ≡ true) × (bytes_with_number bytes at bit width value ≡ new)
put_cases bytes new at bit width value true e is = (e, same_Some _ new is)
put_cases bytes new at bit width value false e is = absurd (cc)

-- what a write to a run was
pub put_done : (bytes new : List ℕ) (at bit : ℕ) (width : Width) (value : ℕ) → put_number bytes at bit width value ≡ Some new → (is_within bytes at bit width ≡ true) × (bytes_with_number bytes at bit width value ≡ new)
unfolding put_number
put_done bytes new at bit width value e = put_cases bytes new at bit width value (is_within bytes at bit width) refl e

-- ---- runs

pub run_after :
    (bytes new : List ℕ) (at bit : ℕ) (width : Width) (value : ℕ)
    → value < 2 ^ bit_count width
    → put_number bytes at bit width value ≡ Some new
    → (n b : ℕ)
    → bit_of_byte (slice_get new n) b ≡ option_map (value_of_bit value (weight_in at bit width n b)) (bit_of_byte (slice_get bytes n) b)
run_after bytes new at bit width value fits done n b =
    let was = put_done bytes new at bit width value done in
    subst (λ (s : List ℕ). bit_of_byte (slice_get s n) b ≡ option_map (value_of_bit value (weight_in at bit width n b)) (bit_of_byte (slice_get bytes n) b)) was.1 (stored_after bytes at bit width value was.0 fits n b)

pub run_holds :
    (bytes new : List ℕ) (at bit : ℕ) (width : Width) (value : ℕ)
    → value < 2 ^ bit_count width
    → put_number bytes at bit width value ≡ Some new
    → number_over (slice_get new) at bit width ≡ Some value
run_holds bytes new at bit width value fits done =
    let was = put_done bytes new at bit width value done in
    subst (λ (s : List ℕ). number_over (slice_get s) at bit width ≡ Some value) was.1 (stored_number bytes at bit width value was.0 fits)

pub length-put : (bytes new : List ℕ) (at bit : ℕ) (width : Width) (value : ℕ) → put_number bytes at bit width value ≡ Some new → length new ≡ length bytes
length-put bytes new at bit width value done =
    let was = put_done bytes new at bit width value done in
    sym (ap length was.1) ∙ length-stored bytes at bit width value

-- an operand ends within its run
pub put_within : (bytes new : List ℕ) (at bit : ℕ) (width : Width) (value : ℕ) → put_number bytes at bit width value ≡ Some new → at + byte_count width ≤ length bytes
put_within bytes new at bit Bit value done = let was = put_done bytes new at bit Bit value done in grind (arith, nat_tests)
put_within bytes new at bit Byte value done = let was = put_done bytes new at bit Byte value done in grind (arith, nat_tests)
put_within bytes new at bit Word value done = let was = put_done bytes new at bit Word value done in grind (arith, nat_tests)
put_within bytes new at bit Dword value done = let was = put_done bytes new at bit Dword value done in grind (arith, nat_tests)

-- ---- weights

outside : (at n k : ℕ) (inside : Bool) → (nat_le at n && nat_lt n (at + k)) ≡ inside → (n < at) ⊎ (at + k ≤ n) → inside ≡ false
outside at n k false e out = refl
outside at n k true e out =
    let tests = and_parts (nat_le at n) (nat_lt n (at + k)) e in
    let from : at ≤ n = leb-true at n tests.0 in
    let to : n < at + k = ltb-true n (at + k) tests.1 in
    absurd (grind arith)

wide_weight : (at n k b : ℕ) → (n < at) ⊎ (at + k ≤ n) → if◌then◌else◌ (nat_le at n && nat_lt n (at + k)) (Some (8 * (k - 1 - (n - at)) + b)) None ≡ None
wide_weight at n k b out =
    ap (λ (t : Bool). if◌then◌else◌ t (Some (8 * (k - 1 - (n - at)) + b)) None) (outside at n k (nat_le at n && nat_lt n (at + k)) refl out)

-- a bit of another byte has none
pub no_weight : (at bit : ℕ) (width : Width) (n b : ℕ) → (n < at) ⊎ (at + byte_count width ≤ n) → weight_in at bit width n b ≡ None
no_weight at bit Bit n b out = let test : nat_eq n at ≡ false = grind (arith, nat_tests) in rw test refl
no_weight at bit Byte n b out = wide_weight at n 1 b out
no_weight at bit Word n b out = wide_weight at n 2 b out
no_weight at bit Dword n b out = wide_weight at n 4 b out

-- ---- peripheral areas

shifted_le : (at n : ℕ) → 256 ≤ at → 256 ≤ n → (x y : Bool) → nat_le (at - 256) (n - 256) ≡ x → nat_le at n ≡ y → x ≡ y
shifted_le at n a b true true e f = refl
shifted_le at n a b true false e f = absurd (grind (arith, nat_tests))
shifted_le at n a b false true e f = absurd (grind (arith, nat_tests))
shifted_le at n a b false false e f = refl

shifted_lt : (at n k : ℕ) → 256 ≤ at → 256 ≤ n → (x y : Bool) → nat_lt (n - 256) (at - 256 + k) ≡ x → nat_lt n (at + k) ≡ y → x ≡ y
shifted_lt at n k a b true true e f = refl
shifted_lt at n k a b true false e f = absurd (grind (arith, nat_tests))
shifted_lt at n k a b false true e f = absurd (grind (arith, nat_tests))
shifted_lt at n k a b false false e f = refl

shifted_eq : (at n : ℕ) → 256 ≤ at → 256 ≤ n → (x y : Bool) → nat_eq (n - 256) (at - 256) ≡ x → nat_eq n at ≡ y → x ≡ y
shifted_eq at n a b true true e f = refl
shifted_eq at n a b true false e f = absurd (grind (arith, nat_tests))
shifted_eq at n a b false true e f = absurd (grind (arith, nat_tests))
shifted_eq at n a b false false e f = refl

wide_shifted : (at n k b : ℕ) → 256 ≤ at → 256 ≤ n → if◌then◌else◌ (nat_le (at - 256) (n - 256) && nat_lt (n - 256) (at - 256 + k)) (Some (8 * (k - 1 - (n - 256 - (at - 256))) + b)) None ≡ if◌then◌else◌ (nat_le at n && nat_lt n (at + k)) (Some (8 * (k - 1 - (n - at)) + b)) None
wide_shifted at n k b from there =
    let le : nat_le (at - 256) (n - 256) ≡ nat_le at n = shifted_le at n from there _ _ refl refl in
    let lt : nat_lt (n - 256) (at - 256 + k) ≡ nat_lt n (at + k) = shifted_lt at n k from there _ _ refl refl in
    let weight : 8 * (k - 1 - (n - 256 - (at - 256))) + b ≡ 8 * (k - 1 - (n - at)) + b = omega arith in
    ap (λ (t : Bool). if◌then◌else◌ (t && nat_lt (n - 256) (at - 256 + k)) (Some (8 * (k - 1 - (n - 256 - (at - 256))) + b)) None) le
    ∙ ap (λ (t : Bool). if◌then◌else◌ (nat_le at n && t) (Some (8 * (k - 1 - (n - 256 - (at - 256))) + b)) None) lt
    ∙ ap (λ (w : ℕ). if◌then◌else◌ (nat_le at n && nat_lt n (at + k)) (Some w) None) weight

-- numbers of the upper part and indices in it weigh the same
shifted_weight : (at bit : ℕ) (width : Width) (n b : ℕ) → 256 ≤ at → 256 ≤ n → weight_in (at - 256) bit width (n - 256) b ≡ weight_in at bit width n b
shifted_weight at bit Bit n b from there =
    let eq : nat_eq (n - 256) (at - 256) ≡ nat_eq n at = shifted_eq at n from there _ _ refl refl in
    ap (λ (t : Bool). if◌then◌else◌ (t && nat_eq b bit) (Some 0) None) eq
shifted_weight at bit Byte n b from there = wide_shifted at n 1 b from there
shifted_weight at bit Word n b from there = wide_shifted at n 2 b from there
shifted_weight at bit Dword n b from there = wide_shifted at n 4 b from there

below_or_from : (n : ℕ) → (n < 256) ⊎ (256 ≤ n)
below_or_from n = grind arith

pub in_low : (p : PeripheralBytes) (n : ℕ) → n < 256 → peripheral_byte p n ≡ slice_get p.low n
in_low p n low = rw (lt-ltb n 256 low) refl

pub in_high : (p : PeripheralBytes) (n : ℕ) → 256 ≤ n → peripheral_byte p n ≡ slice_get p.high (n - 256)
in_high p n high = let test : nat_lt n 256 ≡ false = grind (arith, nat_tests) in rw test refl

pub bit_stays : (old new : Option ℕ) (at bit : ℕ) (width : Width) (value n b : ℕ) → (n < at) ⊎ (at + byte_count width ≤ n) → new ≡ old → bit_of_byte new b ≡ option_map (value_of_bit value (weight_in at bit width n b)) (bit_of_byte old b)
bit_stays old new at bit width value n b out same =
    ap (λ (o : Option ℕ). bit_of_byte o b) same
    ∙ kept_bit (bit_of_byte old b)
    ∙ sym (ap (λ (w : Option ℕ). option_map (value_of_bit value w) (bit_of_byte old b)) (no_weight at bit width n b out))

low_part_after :
    (p : PeripheralBytes) (low : List ℕ) (at bit : ℕ) (width : Width) (value : ℕ)
    → length p.low ≤ 252
    → at < 256
    → value < 2 ^ bit_count width
    → put_number p.low at bit width value ≡ Some low
    → (n b : ℕ)
    → bit_of_byte (peripheral_byte (record p { low = low }) n) b ≡ option_map (value_of_bit value (weight_in at bit width n b)) (bit_of_byte (peripheral_byte p n) b)
low_part_after p low at bit width value short first fits done n b =
    let q : PeripheralBytes = record p { low = low } in
    elim (below_or_from n) [
      | inl below ↦
          ap (λ (o : Option ℕ). bit_of_byte o b) (in_low q n below)
          ∙ run_after p.low low at bit width value fits done n b
          ∙ sym (ap (λ (o : Option ℕ). option_map (value_of_bit value (weight_in at bit width n b)) (bit_of_byte o b)) (in_low p n below))
      | inr from ↦
          let end = put_within p.low low at bit width value done in
          bit_stays (peripheral_byte p n) (peripheral_byte q n) at bit width value n b (inr (omega arith)) (in_high q n from ∙ sym (in_high p n from))
    ]

high_part_after :
    (p : PeripheralBytes) (high : List ℕ) (at bit : ℕ) (width : Width) (value : ℕ)
    → 256 ≤ at
    → value < 2 ^ bit_count width
    → put_number p.high (at - 256) bit width value ≡ Some high
    → (n b : ℕ)
    → bit_of_byte (peripheral_byte (record p { high = high }) n) b ≡ option_map (value_of_bit value (weight_in at bit width n b)) (bit_of_byte (peripheral_byte p n) b)
high_part_after p high at bit width value first fits done n b =
    let q : PeripheralBytes = record p { high = high } in
    elim (below_or_from n) [
      | inl below ↦ bit_stays (peripheral_byte p n) (peripheral_byte q n) at bit width value n b (inl (omega arith)) (in_low q n below ∙ sym (in_low p n below))
      | inr from ↦
          ap (λ (o : Option ℕ). bit_of_byte o b) (in_high q n from)
          ∙ run_after p.high high (at - 256) bit width value fits done (n - 256) b
          ∙ ap (λ (w : Option ℕ). option_map (value_of_bit value w) (bit_of_byte (slice_get p.high (n - 256)) b)) (shifted_weight at bit width n b first from)
          ∙ sym (ap (λ (o : Option ℕ). option_map (value_of_bit value (weight_in at bit width n b)) (bit_of_byte o b)) (in_high p n from))
    ]

-- which part a write to a peripheral area changed
abbrev pub PartPut : (p q : PeripheralBytes) (at bit : ℕ) (width : Width) (value : ℕ) → Type 0
PartPut p q at bit width value =
    ((low : List ℕ) × (at < 256) × (put_number p.low at bit width value ≡ Some low) × (record p { low = low } ≡ q))
    ⊎ ((high : List ℕ) × (256 ≤ at) × (put_number p.high (at - 256) bit width value ≡ Some high) × (record p { high = high } ≡ q))

part_cases :
    (p q : PeripheralBytes) (at bit : ℕ) (width : Width) (value : ℕ) (first : Bool)
    → nat_lt at 256 ≡ first
    → cond first (option_map (λ (bytes : List ℕ). record p { low = bytes }) (put_number p.low at bit width value)) (option_map (λ (bytes : List ℕ). record p { high = bytes }) (put_number p.high (at - 256) bit width value)) ≡ Some q
    → PartPut p q at bit width value
part_cases p q at bit width value true e done =
    let was = mapped_value (λ (bytes : List ℕ). let r : PeripheralBytes = record p { low = bytes } in r) (put_number p.low at bit width value) q done in
    inl (was.0, ltb-true at 256 e, was.1, was.2)
part_cases p q at bit width value false e done =
    let was = mapped_value (λ (bytes : List ℕ). let r : PeripheralBytes = record p { high = bytes } in r) (put_number p.high (at - 256) bit width value) q done in
    inr (was.0, grind (arith, nat_tests), was.1, was.2)

pub part_put : (p q : PeripheralBytes) (at bit : ℕ) (width : Width) (value : ℕ) → put_peripheral p at bit width value ≡ Some q → PartPut p q at bit width value
unfolding put_peripheral
part_put p q at bit width value done = part_cases p q at bit width value (nat_lt at 256) refl done

pub peripheral_after :
    (p q : PeripheralBytes) (at bit : ℕ) (width : Width) (value : ℕ)
    → length p.low ≤ 252
    → value < 2 ^ bit_count width
    → put_peripheral p at bit width value ≡ Some q
    → (n b : ℕ)
    → bit_of_byte (peripheral_byte q n) b ≡ option_map (value_of_bit value (weight_in at bit width n b)) (bit_of_byte (peripheral_byte p n) b)
peripheral_after p q at bit width value short fits done n b =
    elim (part_put p q at bit width value done) [
      | inl w ↦
          subst
          (λ (r : PeripheralBytes). bit_of_byte (peripheral_byte r n) b ≡ option_map (value_of_bit value (weight_in at bit width n b)) (bit_of_byte (peripheral_byte p n) b))
          w.3
          (low_part_after p w.0 at bit width value short w.1 fits w.2 n b)
      | inr w ↦
          subst
          (λ (r : PeripheralBytes). bit_of_byte (peripheral_byte r n) b ≡ option_map (value_of_bit value (weight_in at bit width n b)) (bit_of_byte (peripheral_byte p n) b))
          w.3
          (high_part_after p w.0 at bit width value w.1 fits w.2 n b)
    ]

pub peripheral_holds :
    (p q : PeripheralBytes) (at bit : ℕ) (width : Width) (value : ℕ)
    → length p.low ≤ 252
    → value < 2 ^ bit_count width
    → put_peripheral p at bit width value ≡ Some q
    → number_over (peripheral_byte q) at bit width ≡ Some value
peripheral_holds p q at bit width value short fits done =
    elim (part_put p q at bit width value done) [
      | inl w ↦
          let new : PeripheralBytes = record p { low = w.0 } in
          let size = length-put p.low w.0 at bit width value w.2 in
          subst
          (λ (r : PeripheralBytes). number_over (peripheral_byte r) at bit width ≡ Some value)
          w.3
          (low_number new at bit width (omega arith) w.1 ∙ run_holds p.low w.0 at bit width value fits w.2)
      | inr w ↦
          let new : PeripheralBytes = record p { high = w.0 } in
          subst
          (λ (r : PeripheralBytes). number_over (peripheral_byte r) at bit width ≡ Some value)
          w.3
          (high_number new at bit width w.1 ∙ run_holds p.high w.0 (at - 256) bit width value fits w.2)
    ]

-- ---- data blocks

equal_is : (r : Ordering) → is_eq r ≡ true → r ≡ Equal
equal_is Less e = absurd (cc)
equal_is Equal e = refl
equal_is Greater e = absurd (cc)

pub tests_agree : (k r : ℕ) (x y : Bool) → nat_eq k r ≡ x → eq_by_cmp nat_cmp r k ≡ y → x ≡ y
tests_agree k r true true e f = refl
tests_agree k r false false e f = refl
tests_agree k r true false e f =
    let same : k ≡ r = grind (arith, nat_tests) in
    absurd (true≢false (sym (ap is_eq (tied_itself nat_cmp_total r)) ∙ ap (λ (n : ℕ). eq_by_cmp nat_cmp r n) (sym same) ∙ f))
tests_agree k r false true e f =
    let same : r ≡ k = nat_cmp-IsAntisymmetric r k (equal_is (nat_cmp r k) f) in
    absurd (grind (arith, nat_tests))

-- what a write to a data block was
pub block_put :
    (blocks new : map.FinMap nat_cmp (List ℕ)) (k at bit : ℕ) (width : Width) (value : ℕ)
    → put_in_block blocks k at bit width value ≡ Some new
    → (bytes : List ℕ) × (stored : List ℕ) × (map.get blocks k ≡ Some bytes) × (put_number bytes at bit width value ≡ Some stored) × (map.insert blocks k stored ≡ new)
unfolding put_in_block
block_put blocks new k at bit width value done =
    let found = chained_value (λ (bytes : List ℕ). option_map (λ (s : List ℕ). map.insert blocks k s) (put_number bytes at bit width value)) (map.get blocks k) new done in
    let was = mapped_value (λ (s : List ℕ). map.insert blocks k s) (put_number found.0 at bit width value) new found.2 in
    (found.0, was.0, found.1, was.1, was.2)

block_byte_after :
    (blocks : map.FinMap nat_cmp (List ℕ)) (k r at bit : ℕ) (width : Width) (value : ℕ) (bytes stored : List ℕ)
    → map.get blocks k ≡ Some bytes
    → value < 2 ^ bit_count width
    → put_number bytes at bit width value ≡ Some stored
    → (n b : ℕ)
    → (same : Bool)
    → nat_eq k r ≡ same
    → bit_of_byte (option_and_then (λ (s : List ℕ). slice_get s n) (cond same (Some stored) (map.get blocks r))) b
    ≡ option_map (λ (before : Bool). if◌then◌else◌ same (value_of_bit value (weight_in at bit width n b) before) before) (bit_of_byte (block_byte blocks r n) b)
block_byte_after blocks k r at bit width value bytes stored found fits done n b true e =
    let is : k ≡ r = grind (arith, nat_tests) in
    run_after bytes stored at bit width value fits done n b
    ∙ sym (ap (λ (o : Option (List ℕ)). option_map (value_of_bit value (weight_in at bit width n b)) (bit_of_byte (option_and_then (λ (s : List ℕ). slice_get s n) o) b)) (ap (map.get blocks) (sym is) ∙ found))
block_byte_after blocks k r at bit width value bytes stored found fits done n b false e = kept_bit (bit_of_byte (block_byte blocks r n) b)

pub block_after :
    (blocks new : map.FinMap nat_cmp (List ℕ)) (k at bit : ℕ) (width : Width) (value : ℕ)
    → value < 2 ^ bit_count width
    → put_in_block blocks k at bit width value ≡ Some new
    → (r n b : ℕ)
    → bit_of_byte (block_byte new r n) b
    ≡ option_map (λ (before : Bool). if◌then◌else◌ (nat_eq k r) (value_of_bit value (weight_in at bit width n b) before) before) (bit_of_byte (block_byte blocks r n) b)
block_after blocks new k at bit width value fits done r n b =
    let was = block_put blocks new k at bit width value done in
    ap (λ (m : map.FinMap nat_cmp (List ℕ)). bit_of_byte (block_byte m r n) b) (sym was.4)
    ∙ ap (λ (o : Option (List ℕ)). bit_of_byte (option_and_then (λ (s : List ℕ). slice_get s n) o) b) (get-insert nat_cmp_total blocks k was.1 r)
    ∙ ap (λ (t : Bool). bit_of_byte (option_and_then (λ (s : List ℕ). slice_get s n) (cond t (Some was.1) (map.get blocks r))) b) (sym (tests_agree k r (nat_eq k r) (eq_by_cmp nat_cmp r k) refl refl))
    ∙ block_byte_after blocks k r at bit width value was.0 was.1 was.2 fits was.3 n b (nat_eq k r) refl

pub block_holds :
    (blocks new : map.FinMap nat_cmp (List ℕ)) (k at bit : ℕ) (width : Width) (value : ℕ)
    → value < 2 ^ bit_count width
    → put_in_block blocks k at bit width value ≡ Some new
    → number_over (block_byte new k) at bit width ≡ Some value
block_holds blocks new k at bit width value fits done =
    let was = block_put blocks new k at bit width value done in
    let itself : eq_by_cmp nat_cmp k k ≡ true = ap is_eq (tied_itself nat_cmp_total k) in
    let there : map.get new k ≡ Some was.1 =
    ap (λ (m : map.FinMap nat_cmp (List ℕ)). map.get m k) (sym was.4) ∙ get-insert nat_cmp_total blocks k was.1 k ∙ ap (λ (t : Bool). cond t (Some was.1) (map.get blocks k)) itself in
    ap (λ (o : Option (List ℕ)). number_over (λ (n : ℕ). option_and_then (λ (s : List ℕ). slice_get s n) o) at bit width) there
    ∙ run_holds was.0 was.1 at bit width value fits was.3

loaded_after : (same : Bool) (bytes stored : List ℕ) (o : Option (List ℕ)) → (same ≡ true → o ≡ Some bytes) → is_some (cond same (Some stored) o) ≡ is_some o
loaded_after true bytes stored o found = sym (ap is_some (found refl))
loaded_after false bytes stored o found = refl

pub block_loaded :
    (blocks new : map.FinMap nat_cmp (List ℕ)) (k at bit : ℕ) (width : Width) (value : ℕ)
    → put_in_block blocks k at bit width value ≡ Some new
    → (r : ℕ)
    → is_some (map.get new r) ≡ is_some (map.get blocks r)
block_loaded blocks new k at bit width value done r =
    let was = block_put blocks new k at bit width value done in
    ap (λ (m : map.FinMap nat_cmp (List ℕ)). is_some (map.get m r)) (sym was.4)
    ∙ ap is_some (get-insert nat_cmp_total blocks k was.1 r)
    ∙ loaded_after (eq_by_cmp nat_cmp r k) was.0 was.1 (map.get blocks r) (λ e. ap (map.get blocks) (nat_cmp-IsAntisymmetric r k (equal_is (nat_cmp r k) e)) ∙ was.2)
