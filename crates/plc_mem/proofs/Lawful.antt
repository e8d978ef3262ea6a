-- Further laws of memory, proved.
use Rattle.std.proofs.Common.{◌≡◌, ◌≢◌, ℕ, zero, suc, ◌+◌, ◌-◌, ◌*◌, ◌/◌, ◌%◌, ◌^◌, ◌<◌, ◌≤◌, List, [], ◌∷◌, length, refl, sym, ap, ◌∙◌, subst, arith, Option, Some, None, IsSome, Bool, true, false, nat_eq, nat_lt, nat_le, get_or, replicate, slice_get, ◌⊎◌, inl, inr, is_some, cond, ◌↔◌, unwrap_or, Result, Ok, Err, IsOk, OnOk, MatchResult, slice_index}
use Rattle.plc_mem.specs.declared.faults.Missing.{Missing}
use Rattle.std.specs.Option.{option_map, option_and_then}
use Rattle.std.specs.FinMap as map
use Rattle.std.specs.Ordering.{nat_cmp, eq_by_cmp}
use Rattle.std.specs.Cmp.{nat_cmp_total}
use Rattle.std.specs.List.{AllByRecursion}
use Rattle.std.specs.FinMap.{find, get-from_entries}
use Rattle.std.proofs.lemmas.Bool.Decides.{nat_tests}
use Rattle.std.proofs.lemmas.Bool.{ltb-true, le-leb, true≢false, and_parts}
use Rattle.std.proofs.lemmas.Option.{slice_get-get_or, slice_get_past}
use Rattle.std.proofs.lemmas.Nat.Bits.{bit_at-zero}
use Rattle.std.proofs.lemmas.List.{get_or-replicate, length-replicate, get_or_past}
use Rattle.plc_base.specs.declared.Area.{Area}
use Rattle.plc_base.specs.declared.Area.TheVariants.{P, I, Q, M, Db, Di, L}
use Rattle.plc_base.specs.declared.Width.{Width}
use Rattle.plc_base.specs.declared.Width.TheVariants.{Bit, Byte, Word, Dword}
use Rattle.plc_base.specs.declared.Place.{Place}
use Rattle.plc_mem.specs.Areas.{Areas, PeripheralBytes}
use Rattle.plc_mem.specs.BitPlace.{Region, bit_place, Inputs, Outputs, BitMemory, PeripheralInputs, PeripheralOutputs, DataBlock}
use Rattle.plc_mem.specs.Bits.{bit_at, bit_of_byte, is_bit_one, region_byte, peripheral_byte, block_byte}
use Rattle.plc_base.specs.Widths.{bit_count}
use Rattle.plc_mem.specs.Number.{weights_of, plus_weight, region_number, number_at_place, region_of, region_read, region_written, operand_bit, EachBitExists}
use Rattle.plc_base.specs.Profiles.{bit_memory_size}
use Rattle.plc_base.specs.declared.Profile.{Profile}
use Rattle.plc_mem.specs.Places.{IsBitMemory, IsRun, SamePlaces, IsMemory, IsPeripheral, AreByteValues, HasImage, HasParts}
use Rattle.plc_mem.specs.Writing.{number_written, number_written_in, put_number, put_peripheral, put_in_block, is_within}
use Rattle.plc_mem.specs.WrittenBits.{IsNumberWritten, bit_after_write, value_of_bit}
use Rattle.plc_mem.specs.Run.{number_over, operand_bit_of}
use Rattle.plc_base.specs.AreaBytes.{is_peripheral_byte}
use Rattle.plc_mem.specs.Peripherals.{with_input, outputs_cleared}
use Rattle.plc_mem.specs.Refresh.{memory_refreshed, IsRefreshed}
use Rattle.plc_mem.specs.Fresh.{initial_memory, clear_peripheral}
use Rattle.plc_mem.specs.Laws.{MemoryStarts, ReadsWhereEachBitExists, WritesWhereEachBitExists, NumbersAreReadBack, RefreshesBits, ClearsBits, SetsInputBits, PlacesStay}
use Rattle.plc_mem.proofs.Numbers.{weights_none, no_byte as nothing, run_none, bit_in_some, low_number, high_number, over_none}
use Rattle.plc_mem.proofs.Writes.{written_is, input_written, number_of_region}
use Rattle.plc_mem.proofs.OneMemory.{found_block, has_image, written_in_memory}
use Rattle.plc_mem.proofs.Runs.{none_some, in_low, in_high, no_weight, PartPut, part_put, put_within}
use Rattle.plc_mem.proofs.StoredNumbers.{kept_bit}

-- ---- which numbers there are

is_there : {A : Type 0} (o : Option A) → (o ≡ None → ⊥) → IsSome o
is_there (Some x) some = refl
is_there None some = absurd (some refl)

weights_need : (f : ℕ → Option Bool) (n : ℕ) → IsSome (weights_of f n) → (j : ℕ) → j < n → IsSome (f j)
weights_need f n there j h = is_there (f j) (λ none. true≢false (sym there ∙ ap is_some (weights_none f n j h none)))

some_weight : (j : ℕ) (n : Option ℕ) (b : Option Bool) → IsSome n → IsSome b → IsSome (plus_weight j n b)
some_weight j (Some n) (Some b) hn hb = refl
some_weight j None b hn hb = absurd (true≢false (sym hn))
some_weight j (Some n) None hn hb = absurd (true≢false (sym hb))

weights_there : (f : ℕ → Option Bool) (n : ℕ) → ((j : ℕ) → j < n → IsSome (f j)) → IsSome (weights_of f n)
unfolding weights_of
weights_there f zero all = refl
weights_there f (suc n) all = some_weight n (weights_of f n) (f n) (weights_there f n (λ j h. all j (omega arith))) (all n (omega arith))

pub number_exists : (m : Areas) (region : Option Region) (place : Place) (width : Width) → IsSome (option_and_then (λ (r : Region). region_number m r place width) region) ↔ EachBitExists m region place width
unfolding region_number
number_exists m None place width = (λ h. true≢false (sym h), λ h. absurd h)
number_exists m (Some r) place width =
    (λ h j below. weights_need (λ (j : ℕ). bit_at m (operand_bit r place width j)) (bit_count width) h j below, λ h. weights_there (λ (j : ℕ). bit_at m (operand_bit r place width j)) (bit_count width) h)

pub reads_where_each_bit_exists : (m : Areas) → ReadsWhereEachBitExists m
unfolding number_at_place
reads_where_each_bit_exists m place width = number_exists m (region_read place) place width

-- ---- reading back

same_regions : (a : Area) (number : ℕ) → a ≢ P → region_of PeripheralInputs a number ≡ region_of PeripheralOutputs a number
same_regions P number other = absurd (other refl)
same_regions I number other = refl
same_regions Q number other = refl
same_regions M number other = refl
same_regions Db number other = refl
same_regions Di number other = refl
same_regions L number other = refl

pub numbers_are_read_back : (m : Areas) → IsMemory m → NumbersAreReadBack m
unfolding number_at_place
numbers_are_read_back m is n place width value fits other done =
    let words = written_is m n place width value (λ _. has_image m is) fits done in
    ap (option_and_then (λ (r : Region). region_number n r place width)) (same_regions place.area place.number other ∙ words.1) ∙ words.2.number

-- ---- places

kept_place : {A B : Type 0} (f : A → B) (o : Option A) → is_some (option_map f o) ≡ is_some o
kept_place f (Some x) = refl
kept_place f None = refl

pub written_places : (m n : Areas) (place : Place) (width : Width) (value : ℕ) → IsMemory m → value < 2 ^ bit_count width → number_written m place width value ≡ Some n → SamePlaces m n
written_places m n place width value is fits done =
    let words = written_is m n place width value (λ _. has_image m is) fits done in
    record {
      bits = λ q. ap is_some (words.2.bits q) ∙ kept_place (bit_after_write words.0 place.byte place.bit width value q) (bit_at m q);
      blocks = words.2.blocks;
    }

-- ---- the process images

below_or_from : (n : ℕ) → (n < 256) ⊎ (256 ≤ n)
below_or_from n = grind arith

within_or_past : (n : ℕ) (xs : List ℕ) → (n < length xs) ⊎ (length xs ≤ n)
within_or_past n xs = grind arith

low_byte : (p : PeripheralBytes) (n b : ℕ) → n < 128 → bit_of_byte (peripheral_byte p n) b ≡ bit_of_byte (slice_get p.low n) b
low_byte p n b below = ap (λ (o : Option ℕ). bit_of_byte o b) (in_low p n (omega arith))

upper_byte : (p q : PeripheralBytes) (n b : ℕ) → length p.low ≡ 128 → length q.low ≡ 128 → q.high ≡ p.high → 128 ≤ n → bit_of_byte (peripheral_byte q n) b ≡ bit_of_byte (peripheral_byte p n) b
upper_byte p q n b hp hq same from =
    elim (below_or_from n) [
      | inl gap ↦
          ap (λ (o : Option ℕ). bit_of_byte o b) (in_low q n gap ∙ slice_get_past q.low n (omega (arith, hq)) ∙ sym (in_low p n gap ∙ slice_get_past p.low n (omega (arith, hp))))
      | inr high ↦ ap (λ (o : Option ℕ). bit_of_byte o b) (in_high q n high ∙ ap (λ (s : List ℕ). slice_get s (n - 256)) same ∙ sym (in_high p n high))
    ]

refreshed_others : (m : Areas) (region : Region) (n b : ℕ) → region ≢ Inputs → region ≢ PeripheralOutputs → bit_at (memory_refreshed m) (bit_place region n b) ≡ bit_at m (bit_place region n b)
unfolding bit_at memory_refreshed
refreshed_others m Inputs n b inputs outputs = absurd (inputs refl)
refreshed_others m PeripheralOutputs n b inputs outputs = absurd (outputs refl)
refreshed_others m Outputs n b inputs outputs = refl
refreshed_others m BitMemory n b inputs outputs = refl
refreshed_others m PeripheralInputs n b inputs outputs = refl
refreshed_others m (DataBlock k) n b inputs outputs = refl

either_some : (t p q : Bool) → is_some (cond t (Some p) None) ≡ is_some (cond t (Some q) None)
either_some true p q = refl
either_some false p q = refl

some_places : (b x y : ℕ) → is_some (bit_of_byte (Some x) b) ≡ is_some (bit_of_byte (Some y) b)
some_places b x y = either_some (nat_lt b 8) (is_bit_one x b) (is_bit_one y b)

-- two runs of one length have the same bit places
same_length_places : (xs ys : List ℕ) (n b : ℕ) → length ys ≡ length xs → is_some (bit_of_byte (slice_get ys n) b) ≡ is_some (bit_of_byte (slice_get xs n) b)
same_length_places xs ys n b same =
    elim (within_or_past n xs) [
      | inl within ↦
          ap (λ (o : Option ℕ). is_some (bit_of_byte o b)) (slice_get-get_or ys n 0 (omega (arith, same)))
          ∙ some_places b (get_or ys n 0) (get_or xs n 0)
          ∙ sym (ap (λ (o : Option ℕ). is_some (bit_of_byte o b)) (slice_get-get_or xs n 0 within))
      | inr past ↦ ap (λ (o : Option ℕ). is_some (bit_of_byte o b)) (slice_get_past ys n (omega (arith, same)) ∙ sym (slice_get_past xs n past))
    ]

refreshed_places : (m : Areas) → IsMemory m → (region : Region) (n b : ℕ) → is_some (bit_at (memory_refreshed m) (bit_place region n b)) ≡ is_some (bit_at m (bit_place region n b))
unfolding bit_at memory_refreshed
refreshed_places m is Inputs n b = same_length_places m.inputs m.peripheral_inputs.low n b (is.peripheral_inputs.low.count_is ∙ sym is.inputs.count_is)
refreshed_places m is PeripheralOutputs n b =
    elim (below_or_from n) [
      | inl below ↦
          ap (λ (o : Option ℕ). is_some (bit_of_byte o b)) (in_low (record m.peripheral_outputs { low = m.outputs }) n below)
          ∙ same_length_places m.peripheral_outputs.low m.outputs n b (is.outputs.count_is ∙ sym is.peripheral_outputs.low.count_is)
          ∙ sym (ap (λ (o : Option ℕ). is_some (bit_of_byte o b)) (in_low m.peripheral_outputs n below))
      | inr high ↦
          ap (λ (o : Option ℕ). is_some (bit_of_byte o b)) (in_high (record m.peripheral_outputs { low = m.outputs }) n high ∙ sym (in_high m.peripheral_outputs n high))
    ]
refreshed_places m is Outputs n b = refl
refreshed_places m is BitMemory n b = refl
refreshed_places m is PeripheralInputs n b = refl
refreshed_places m is (DataBlock k) n b = refl

refreshed_memory : (m : Areas) → IsMemory m → IsMemory (memory_refreshed m)
unfolding memory_refreshed
refreshed_memory m is = record {
  inputs = is.peripheral_inputs.low;
  outputs = is.outputs;
  bit_memory = is.bit_memory;
  peripheral_inputs = is.peripheral_inputs;
  peripheral_outputs = record { low = is.outputs; high = is.peripheral_outputs.high };
  data_blocks = is.data_blocks;
}

refreshed_bits : (m : Areas) → IsMemory m → IsRefreshed m (memory_refreshed m)
unfolding bit_at memory_refreshed
refreshed_bits m is =
    let new : PeripheralBytes = record m.peripheral_outputs { low = m.outputs } in
    record {
      inputs = λ n b below. sym (low_byte m.peripheral_inputs n b below);
      outputs = λ n b below. low_byte new n b below;
      upper_outputs = λ n b from. upper_byte m.peripheral_outputs new n b is.peripheral_outputs.low.count_is is.outputs.count_is refl from;
      others = λ q inputs outputs. refreshed_others m q.region q.byte q.bit inputs outputs;
      places = record { bits = λ q. refreshed_places m is q.region q.byte q.bit; blocks = λ k. refl };
    }

pub refreshes_bits : (m : Areas) → IsMemory m → RefreshesBits m
refreshes_bits m is = (refreshed_memory m is, refreshed_bits m is)

-- ---- cleared outputs

no_ones : (t x : Bool) → cond t (Some false) None ≡ option_map (λ (_ : Bool). false) (cond t (Some x) None)
no_ones true x = refl
no_ones false x = refl

zero_bits : (b x : ℕ) → bit_of_byte (Some 0) b ≡ option_map (λ (_ : Bool). false) (bit_of_byte (Some x) b)
zero_bits b x =
    let zero_bit : is_bit_one 0 b ≡ false = ap (λ (d : ℕ). nat_eq d 1) (bit_at-zero b) in
    ap (λ (z : Bool). cond (nat_lt b 8) (Some z) None) zero_bit ∙ no_ones (nat_lt b 8) (is_bit_one x b)

zero_run : (count : ℕ) (xs : List ℕ) (n b : ℕ) → length xs ≡ count → bit_of_byte (slice_get (replicate count 0) n) b ≡ option_map (λ (_ : Bool). false) (bit_of_byte (slice_get xs n) b)
zero_run count xs n b size =
    elim (within_or_past n xs) [
      | inl within ↦
          let zero_there : slice_get (replicate count 0) n ≡ Some 0 =
          slice_get-get_or (replicate count 0) n 0 (simp length-replicate (omega (arith, size))) ∙ ap Some (get_or-replicate count n 0 0 (omega (arith, size))) in
          ap (λ (o : Option ℕ). bit_of_byte o b) zero_there
          ∙ zero_bits b (get_or xs n 0)
          ∙ sym (ap (λ (o : Option ℕ). option_map (λ (_ : Bool). false) (bit_of_byte o b)) (slice_get-get_or xs n 0 within))
      | inr past ↦
          ap (λ (o : Option ℕ). bit_of_byte o b) (slice_get_past (replicate count 0) n (simp length-replicate (omega (arith, size))))
          ∙ nothing (nat_lt b 8) b
          ∙ sym
          (ap (λ (o : Option ℕ). option_map (λ (_ : Bool). false) (bit_of_byte o b)) (slice_get_past xs n past)
          ∙ ap (option_map (λ (_ : Bool). false)) (nothing (nat_lt b 8) b))
    ]

cleared_bits : (p : PeripheralBytes) (n b : ℕ) → IsPeripheral p → bit_of_byte (peripheral_byte clear_peripheral n) b ≡ option_map (λ (_ : Bool). false) (bit_of_byte (peripheral_byte p n) b)
cleared_bits p n b is =
    elim (below_or_from n) [
      | inl below ↦
          ap (λ (o : Option ℕ). bit_of_byte o b) (in_low clear_peripheral n below)
          ∙ zero_run 128 p.low n b is.low.count_is
          ∙ sym (ap (λ (o : Option ℕ). option_map (λ (_ : Bool). false) (bit_of_byte o b)) (in_low p n below))
      | inr high ↦
          ap (λ (o : Option ℕ). bit_of_byte o b) (in_high clear_peripheral n high)
          ∙ zero_run 512 p.high (n - 256) b is.high.count_is
          ∙ sym (ap (λ (o : Option ℕ). option_map (λ (_ : Bool). false) (bit_of_byte o b)) (in_high p n high))
    ]

cleared_others : (m : Areas) (region : Region) (n b : ℕ) → region ≢ PeripheralOutputs → bit_at (outputs_cleared m) (bit_place region n b) ≡ bit_at m (bit_place region n b)
unfolding bit_at outputs_cleared
cleared_others m PeripheralOutputs n b other = absurd (other refl)
cleared_others m region n b other = refl

zero_bytes : (count : ℕ) → AreByteValues (replicate count 0)
zero_bytes count i =
    elim (within_or_past i (replicate count 0)) [
      | inl within ↦ let zero_there = get_or-replicate {A = ℕ} count i 0 0 (simp length-replicate at within) in omega (arith, zero_there)
      | inr past ↦ let none = get_or_past (replicate count 0) i 0 past in omega (arith, none)
    ]

cleared_memory : (m : Areas) → IsMemory m → IsMemory (outputs_cleared m)
unfolding outputs_cleared
cleared_memory m is = record {
  inputs = is.inputs;
  outputs = is.outputs;
  bit_memory = is.bit_memory;
  peripheral_inputs = is.peripheral_inputs;
  peripheral_outputs = record { low = record { count_is = simp length-replicate; bytes_are = zero_bytes 128 }; high = record { count_is = simp length-replicate; bytes_are = zero_bytes 512 } };
  data_blocks = is.data_blocks;
}

pub clears_bits : (m : Areas) → IsMemory m → ClearsBits m
unfolding bit_at outputs_cleared
clears_bits m is = (
  cleared_memory m is,
  record {
    outputs = λ n b. cleared_bits m.peripheral_outputs n b is.peripheral_outputs;
    others = λ q other. cleared_others m q.region q.byte q.bit other;
    blocks = λ k. refl;
  },
)

-- ---- inputs

-- the place that a byte of the peripheral area has
byte_place : ℕ → Place
byte_place byte = record { area = P; number = 0; byte = byte; bit = 0 }

number_places : (m : Areas) (region : Region) (place : Place) (width : Width) (value : ℕ) → region_number m region place width ≡ Some value → (j : ℕ) → j < bit_count width → IsSome (bit_at m (operand_bit region place width j))
unfolding region_number
number_places m region place width value is j h = weights_need (λ (j : ℕ). bit_at m (operand_bit region place width j)) (bit_count width) (ap is_some is) j h

value_there : (f : Bool → Bool) (b : Bool) (o : Option Bool) → IsSome (option_map f o) → ((x : Bool) → f x ≡ b) → option_map f o ≡ Some b
value_there f b (Some x) some is = ap Some (is x)
value_there f b None some is = absurd (true≢false (sym some))

input_value : (byte bit value : ℕ) (x : Bool) → bit_after_write PeripheralInputs byte 0 Byte value (bit_place PeripheralInputs byte bit) x ≡ is_bit_one value bit
input_value byte bit value x =
    let first : nat_le byte byte ≡ true = grind (arith, nat_tests) in
    let last : nat_lt byte (byte + 1) ≡ true = grind (arith, nat_tests) in
    let weight : 8 * (1 - 1 - (byte - byte)) + bit ≡ bit = omega arith in
    rw (first, last) (ap (is_bit_one value) weight)

input_others : (byte value : ℕ) (region : Region) (n b : ℕ) (o : Option Bool) → bit_place region n b ≢ bit_place PeripheralInputs byte b → option_map (bit_after_write PeripheralInputs byte 0 Byte value (bit_place region n b)) o ≡ o
input_others byte value PeripheralInputs n b o other =
    let elsewhere : n ≢ byte = λ same. other (ap (λ (k : ℕ). bit_place PeripheralInputs k b) same) in
    let outside : (n < byte) ⊎ (byte + 1 ≤ n) = grind arith in
    ap (λ (w : Option ℕ). option_map (value_of_bit value w) o) (no_weight byte 0 Byte n b outside) ∙ sym (kept_bit o)
input_others byte value Inputs n b o other = sym (kept_bit o)
input_others byte value Outputs n b o other = sym (kept_bit o)
input_others byte value BitMemory n b o other = sym (kept_bit o)
input_others byte value PeripheralOutputs n b o other = sym (kept_bit o)
input_others byte value (DataBlock k) n b o other = sym (kept_bit o)

pub sets_input_bits : (m : Areas) → IsMemory m → SetsInputBits m
unfolding with_input byte_place
sets_input_bits m is n byte value fits done =
    let words = input_written m n (byte_place byte) Byte value is.peripheral_inputs.low.count_is fits done in (
      written_in_memory m n PeripheralInputs byte 0 Byte value is fits done,
      record {
        input = λ bit low.
            let start : byte + (1 - 1 - bit / 8) ≡ byte = omega arith in
            let index : bit % 8 ≡ bit = omega arith in
            let there : IsSome (bit_at n (bit_place PeripheralInputs byte bit)) =
            subst (λ (i : ℕ). IsSome (bit_at n (bit_place PeripheralInputs byte i))) index
            (subst (λ (i : ℕ). IsSome (bit_at n (bit_place PeripheralInputs i (bit % 8)))) start (number_places n PeripheralInputs (byte_place byte) Byte value words.number bit low)) in
            words.bits (bit_place PeripheralInputs byte bit)
            ∙ value_there (bit_after_write PeripheralInputs byte 0 Byte value (bit_place PeripheralInputs byte bit)) (is_bit_one value bit) (bit_at m (bit_place PeripheralInputs byte bit)) (subst IsSome (words.bits (bit_place PeripheralInputs byte bit)) there) (input_value byte bit value);
        others = λ q other. words.bits q ∙ input_others byte value q.region q.byte q.bit (bit_at m q) other;
        blocks = words.blocks;
      },
    )

input_places : (m n : Areas) (byte value : ℕ) → IsMemory m → value < 2 ^ 8 → with_input m byte value ≡ Some n → SamePlaces m n
unfolding with_input byte_place
input_places m n byte value is fits done =
    let words = input_written m n (byte_place byte) Byte value is.peripheral_inputs.low.count_is fits done in
    record {
      bits = λ q. ap is_some (words.bits q) ∙ kept_place (bit_after_write PeripheralInputs byte 0 Byte value q) (bit_at m q);
      blocks = words.blocks;
    }

cleared_places : (m : Areas) → IsMemory m → (region : Region) (n b : ℕ) → is_some (bit_at (outputs_cleared m) (bit_place region n b)) ≡ is_some (bit_at m (bit_place region n b))
unfolding bit_at outputs_cleared
cleared_places m is PeripheralOutputs n b = ap is_some (cleared_bits m.peripheral_outputs n b is.peripheral_outputs) ∙ kept_place (λ (_ : Bool). false) (bit_at m (bit_place PeripheralOutputs n b))
cleared_places m is region n b = refl

pub places_stay : (m : Areas) → IsMemory m → PlacesStay m
places_stay m is = (
  λ n place width value fits done. written_places m n place width value is fits done,
  λ n byte value fits done. input_places m n byte value is fits done,
  record { bits = λ q. cleared_places m is q.region q.byte q.bit; blocks = (clears_bits m is).1.blocks },
  (refreshes_bits m is).1.places,
)

-- ---- which writings there are

same_some_of : {A B C : Type 0} (f : B → C) (o : Option A) (p : Option B) → is_some p ≡ is_some o → is_some (option_map f p) ≡ is_some o
same_some_of f o p same = kept_place f p ∙ same

bit_stands : (bytes : List ℕ) (n b : ℕ) → n < length bytes → b < 8 → IsSome (bit_of_byte (slice_get bytes n) b)
bit_stands bytes n b within low = ap is_some (ap (λ (o : Option ℕ). bit_of_byte o b) (slice_get-get_or bytes n 0 within) ∙ bit_in_some (slice_index bytes n) b low)

run_some : (bytes : List ℕ) (at bit : ℕ) (width : Width) → is_within bytes at bit width ≡ true → IsSome (number_over (slice_get bytes) at bit width)
unfolding number_over
run_some bytes at bit Bit within =
    let tests = and_parts (nat_lt at (length bytes)) (nat_lt bit 8) within in
    weights_there (operand_bit_of (slice_get bytes) at bit Bit) 1 (λ j h. bit_stands bytes at bit (ltb-true at (length bytes) tests.0) (ltb-true bit 8 tests.1))
run_some bytes at bit Byte within =
    let room : at + 1 ≤ length bytes = grind (arith, nat_tests) in
    weights_there (operand_bit_of (slice_get bytes) at bit Byte) 8 (λ j h. bit_stands bytes (at + (1 - 1 - j / 8)) (j % 8) (omega arith) (omega arith))
run_some bytes at bit Word within =
    let room : at + 2 ≤ length bytes = grind (arith, nat_tests) in
    weights_there (operand_bit_of (slice_get bytes) at bit Word) 16 (λ j h. bit_stands bytes (at + (2 - 1 - j / 8)) (j % 8) (omega arith) (omega arith))
run_some bytes at bit Dword within =
    let room : at + 4 ≤ length bytes = grind (arith, nat_tests) in
    weights_there (operand_bit_of (slice_get bytes) at bit Dword) 32 (λ j h. bit_stands bytes (at + (4 - 1 - j / 8)) (j % 8) (omega arith) (omega arith))

pub run_exists : (bytes : List ℕ) (at bit : ℕ) (width : Width) (value : ℕ) (within : Bool) → is_within bytes at bit width ≡ within → is_some (put_number bytes at bit width value) ≡ is_some (number_over (slice_get bytes) at bit width)
unfolding put_number
run_exists bytes at bit width value true e = rw e (sym (run_some bytes at bit width e))
run_exists bytes at bit width value false e = rw e (sym (ap is_some (run_none bytes at bit width e)))

part_exists : (p : PeripheralBytes) (at bit : ℕ) (width : Width) (value : ℕ) → length p.low ≡ 128 → (first : Bool) → nat_lt at 256 ≡ first → is_some (put_peripheral p at bit width value) ≡ is_some (number_over (peripheral_byte p) at bit width)
unfolding put_peripheral
part_exists p at bit width value size true e =
    let low : at < 256 = ltb-true at 256 e in
    rw e (kept_place (λ (bytes : List ℕ). let r : PeripheralBytes = record p { low = bytes } in r) (put_number p.low at bit width value)
    ∙ run_exists p.low at bit width value (is_within p.low at bit width) refl
    ∙ sym (ap is_some (low_number p at bit width (omega (arith, size)) low)))
part_exists p at bit width value size false e =
    let high : 256 ≤ at = grind (arith, nat_tests) in
    rw e (kept_place (λ (bytes : List ℕ). let r : PeripheralBytes = record p { high = bytes } in r) (put_number p.high (at - 256) bit width value)
    ∙ run_exists p.high (at - 256) bit width value (is_within p.high (at - 256) bit width) refl
    ∙ sym (ap is_some (high_number p at bit width high)))

block_exists : (blocks : map.FinMap nat_cmp (List ℕ)) (k at bit : ℕ) (width : Width) (value : ℕ) → (o : Option (List ℕ)) → map.get blocks k ≡ o → is_some (put_in_block blocks k at bit width value) ≡ is_some (number_over (block_byte blocks k) at bit width)
unfolding put_in_block
block_exists blocks k at bit width value (Some bytes) e =
    rw e (kept_place (λ (new : List ℕ). map.insert blocks k new) (put_number bytes at bit width value) ∙ run_exists bytes at bit width value (is_within bytes at bit width) refl
    ∙ sym (ap (λ (o : Option (List ℕ)). is_some (number_over (λ (n : ℕ). option_and_then (λ (s : List ℕ). slice_get s n) o) at bit width)) e))
block_exists blocks k at bit width value None e =
    let none : block_byte blocks k at ≡ None = ap (option_and_then (λ (s : List ℕ). slice_get s at)) e in
    rw e (sym (ap is_some (over_none (block_byte blocks k) at bit width none)))

abbrev SameExistence : Areas → Region → Place → Width → ℕ → Type 0
SameExistence m region place width value = is_some (number_written_in m region place.byte place.bit width value) ≡ is_some (number_over (region_byte m region) place.byte place.bit width)

inputs_exist : (m : Areas) (place : Place) (width : Width) (value : ℕ) → SameExistence m Inputs place width value
inputs_exist m place width value =
    kept_place (λ (s : List ℕ). let r : Areas = record m { inputs = s } in r) (put_number m.inputs place.byte place.bit width value)
    ∙ run_exists m.inputs place.byte place.bit width value (is_within m.inputs place.byte place.bit width) refl

outputs_exist : (m : Areas) (place : Place) (width : Width) (value : ℕ) → SameExistence m Outputs place width value
outputs_exist m place width value =
    kept_place (λ (s : List ℕ). let r : Areas = record m { outputs = s } in r) (put_number m.outputs place.byte place.bit width value)
    ∙ run_exists m.outputs place.byte place.bit width value (is_within m.outputs place.byte place.bit width) refl

memory_exists : (m : Areas) (place : Place) (width : Width) (value : ℕ) → SameExistence m BitMemory place width value
memory_exists m place width value =
    kept_place (λ (s : List ℕ). let r : Areas = record m { bit_memory = s } in r) (put_number m.bit_memory place.byte place.bit width value)
    ∙ run_exists m.bit_memory place.byte place.bit width value (is_within m.bit_memory place.byte place.bit width) refl

peripheral_exists : (m : Areas) (place : Place) (width : Width) (value : ℕ) → HasImage m → SameExistence m PeripheralOutputs place width value
peripheral_exists m place width value sizes =
    kept_place (λ (p : PeripheralBytes). let r : Areas = record m { outputs = unwrap_or (put_number m.outputs place.byte place.bit width value) m.outputs; peripheral_outputs = p } in r) (put_peripheral m.peripheral_outputs place.byte place.bit width value)
    ∙ part_exists m.peripheral_outputs place.byte place.bit width value sizes.outputs_low (nat_lt place.byte 256) refl

in_block_exists : (m : Areas) (k : ℕ) (place : Place) (width : Width) (value : ℕ) → SameExistence m (DataBlock k) place width value
in_block_exists m k place width value =
    kept_place (λ (blocks : map.FinMap nat_cmp (List ℕ)). let r : Areas = record m { data_blocks = blocks } in r) (put_in_block m.data_blocks k place.byte place.bit width value)
    ∙ block_exists m.data_blocks k place.byte place.bit width value (map.get m.data_blocks k) refl

-- an area that stands with number 0 alone
lone_exists :
    (m : Areas) (region : Region) (place : Place) (width : Width) (value : ℕ) (is_zero : Bool)
    → (is_zero ≡ true → SameExistence m region place width value)
    → is_some (option_and_then (λ (r : Region). number_written_in m r place.byte place.bit width value) (cond is_zero (Some region) None)) ≡ is_some (option_and_then (λ (r : Region). region_number m r place width) (cond is_zero (Some region) None))
lone_exists m region place width value true same = same refl ∙ sym (ap is_some (number_of_region m region place width))
lone_exists m region place width value false same = refl

exists_by_area :
    (m : Areas) (area : Area) (place : Place) (width : Width) (value : ℕ)
    → (region_of PeripheralOutputs area place.number ≡ Some PeripheralOutputs → HasImage m)
    → is_some (option_and_then (λ (r : Region). number_written_in m r place.byte place.bit width value) (region_of PeripheralOutputs area place.number)) ≡ is_some (option_and_then (λ (r : Region). region_number m r place width) (region_of PeripheralOutputs area place.number))
exists_by_area m P place width value sizes =
    lone_exists m PeripheralOutputs place width value (nat_eq place.number 0)
    (λ zero_number. peripheral_exists m place width value (sizes (ap (λ (t : Bool). let r : Option Region = cond t (Some PeripheralOutputs) None in r) zero_number)))
exists_by_area m I place width value sizes = lone_exists m Inputs place width value (nat_eq place.number 0) (λ _. inputs_exist m place width value)
exists_by_area m Q place width value sizes = lone_exists m Outputs place width value (nat_eq place.number 0) (λ _. outputs_exist m place width value)
exists_by_area m M place width value sizes = lone_exists m BitMemory place width value (nat_eq place.number 0) (λ _. memory_exists m place width value)
exists_by_area m Db place width value sizes = in_block_exists m place.number place width value ∙ sym (ap is_some (number_of_region m (DataBlock place.number) place width))
exists_by_area m Di place width value sizes = refl
exists_by_area m L place width value sizes = refl

pub writing_exists : (m : Areas) (place : Place) (width : Width) (value : ℕ) → (region_written place ≡ Some PeripheralOutputs → HasImage m) → IsSome (number_written m place width value) ↔ EachBitExists m (region_written place) place width
unfolding number_written
writing_exists m place width value sizes =
    let same = exists_by_area m place.area place width value sizes in
    let exists = number_exists m (region_written place) place width in
    (λ h. exists.0 (sym same ∙ h), λ h. same ∙ exists.1 h)

pub writes_where_each_bit_exists : (m : Areas) → IsMemory m → WritesWhereEachBitExists m
writes_where_each_bit_exists m is place width value = writing_exists m place width value (λ _. has_image m is)

-- ---- what the calls answer

pub read_answers : (m : Areas) (place : Place) (width : Width) (r : Result ℕ Missing) → MatchResult r (λ n. number_at_place m place width ≡ Some n) (λ _. number_at_place m place width ≡ None) → IsOk r ↔ EachBitExists m (region_read place) place width
read_answers m place width (Ok n) is = let exists = reads_where_each_bit_exists m place width in (λ _. exists.0 (ap is_some is), λ _. refl)
read_answers m place width (Err _) is = let exists = reads_where_each_bit_exists m place width in (λ h. absurd (true≢false (sym h)), λ h. absurd (true≢false (sym (exists.1 h) ∙ ap is_some is)))

pub write_answers :
    (m n : Areas) (place : Place) (width : Width) (value : ℕ) (r : Result (Unit {0}) Missing)
    → (region_written place ≡ Some PeripheralOutputs → HasImage m)
    → MatchResult r (λ _. number_written m place width value ≡ Some n) (λ _. (number_written m place width value ≡ None) × (n ≡ m))
    → IsOk r ↔ EachBitExists m (region_written place) place width
write_answers m n place width value (Ok _) sizes is = let exists = writing_exists m place width value sizes in (λ _. exists.0 (ap is_some is), λ _. refl)
write_answers m n place width value (Err _) sizes is =
    let exists = writing_exists m place width value sizes in
    (λ h. absurd (true≢false (sym h)), λ h. absurd (true≢false (sym (exists.1 h) ∙ ap is_some is.0)))

pub write_bits :
    (m n : Areas) (place : Place) (width : Width) (value : ℕ) (r : Result (Unit {0}) Missing)
    → (region_written place ≡ Some PeripheralOutputs → HasImage m)
    → value < 2 ^ bit_count width
    → MatchResult r (λ _. number_written m place width value ≡ Some n) (λ _. (number_written m place width value ≡ None) × (n ≡ m))
    → OnOk r (IsNumberWritten m n place width value)
write_bits m n place width value (Ok _) sizes fits is = written_is m n place width value sizes fits is
write_bits m n place width value (Err _) sizes fits is = tt

-- ---- one peripheral byte

byte_of_part : (p q : PeripheralBytes) (at value : ℕ) → HasParts p → PartPut p q at 0 Byte value → is_peripheral_byte at ≡ true
byte_of_part p q at value parts (inl w) = let end = put_within p.low w.0 at 0 Byte value w.2 in
    let below : at < 128 = omega (arith, parts.low) in grind (arith, nat_tests)
byte_of_part p q at value parts (inr w) = let end = put_within p.high w.0 (at - 256) 0 Byte value w.2 in
    let from : 256 ≤ at = w.1 in let below : at < 768 = omega (arith, parts.high, w.1) in grind (arith, nat_tests)

-- in which part a peripheral byte lies
part_of_byte : (at : ℕ) → is_peripheral_byte at ≡ true → (at < 128) ⊎ ((256 ≤ at) × (at < 768))
part_of_byte at there = grind (arith, nat_tests)

byte_put : (p : PeripheralBytes) (at value : ℕ) → HasParts p → (at < 128) ⊎ ((256 ≤ at) × (at < 768)) → IsSome (put_peripheral p at 0 Byte value)
unfolding put_peripheral put_number
byte_put p at value parts (inl low) =
    let first : nat_lt at 256 ≡ true = grind (arith, nat_tests) in
    let within : nat_le (at + 1) (length p.low) ≡ true = le-leb (at + 1) (length p.low) (omega (arith, parts.low)) in
    rw (first, within) refl
byte_put p at value parts (inr high) =
    let later : nat_lt at 256 ≡ false = grind (arith, nat_tests) in
    let within : nat_le (at - 256 + 1) (length p.high) ≡ true = le-leb (at - 256 + 1) (length p.high) (omega (arith, parts.high, high.1)) in
    rw (later, within) refl

pub input_answers :
    (p q : PeripheralBytes) (at value : ℕ) (r : Result (Unit {0}) Missing)
    → HasParts p
    → MatchResult r (λ _. put_peripheral p at 0 Byte value ≡ Some q) (λ _. (put_peripheral p at 0 Byte value ≡ None) × (q ≡ p))
    → IsOk r ↔ (is_peripheral_byte at ≡ true)
input_answers p q at value (Ok _) parts is = (λ _. byte_of_part p q at value parts (part_put p q at 0 Byte value is), λ _. refl)
input_answers p q at value (Err _) parts is =
    (λ h. absurd (true≢false (sym h)), λ there. absurd (true≢false (sym (byte_put p at value parts (part_of_byte at there)) ∙ ap is_some is.0)))

-- ---- the start

pub zero_count : (count : ℕ) → IsRun count (replicate count 0)
zero_count count = record { count_is = length-replicate count 0; bytes_are = zero_bytes count }

pub zero_memory : (profile : Profile) → IsBitMemory (replicate (bit_memory_size profile) 0)
zero_memory profile =
    let run : IsRun (bit_memory_size profile) (replicate (bit_memory_size profile) 0) =
    zero_count (bit_memory_size profile) in
    record { profile = profile; count_is = run.count_is; bytes_are = run.bytes_are }

block_found : (blocks : List (ℕ × List ℕ)) (k : ℕ) (bytes : List ℕ) → AllByRecursion (λ (block : ℕ × List ℕ). AreByteValues block.1) blocks → find nat_cmp k blocks ≡ Some bytes → AreByteValues bytes
block_found [] k bytes all found = absurd (none_some bytes found)
block_found (e ∷ es) k bytes all found =
    found_block (eq_by_cmp nat_cmp k e.0) bytes e.1 (find nat_cmp k es) all.0 (λ s rest. block_found es k s all.1 rest) found

pub memory_starts : MemoryStarts
unfolding initial_memory
memory_starts profile blocks all = record {
  inputs = zero_count 128;
  outputs = zero_count 128;
  bit_memory = zero_memory profile;
  peripheral_inputs = record { low = zero_count 128; high = zero_count 512 };
  peripheral_outputs = record { low = zero_count 128; high = zero_count 512 };
  data_blocks = λ k bytes found. block_found blocks k bytes all (sym (get-from_entries nat_cmp_total blocks k) ∙ found);
}
