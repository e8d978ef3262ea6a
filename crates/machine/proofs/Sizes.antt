-- Memories of the same sizes have the same places, and writing changes no size.
use Rattle.std.proofs.Common.{unwrap_or, ◌≡◌, ◌∙◌, ◌⊎◌, ◌-◌, ◌<◌, ◌≤◌, inl, inr, ℕ, Bool, true, false, cond, is_some, IsSome, List, length, slice_get, get_or, Option, Some, None, refl, sym, ap, arith}
use Rattle.std.proofs.lemmas.Bool.{cases_lt}
use Rattle.std.proofs.lemmas.Option.{slice_get-get_or, slice_get_past}
use Rattle.std.specs.Option.{option_map, option_and_then}
use Rattle.std.specs.FinMap as finmap
use Rattle.std.specs.FinMap.{get-insert, nat_cmp-IsAntisymmetric}
use Rattle.std.specs.Ordering.{nat_cmp, eq_by_cmp, is_eq}
use Rattle.std.specs.declared.cmp.Ordering.{Ordering}
use Rattle.std.specs.declared.cmp.Ordering.TheVariants.{Less, Equal, Greater}
use Rattle.std.specs.Cmp.{nat_cmp_total}
use Rattle.plc_base.specs.declared.Width.{Width}
use Rattle.plc_base.specs.declared.Place.{Place}
use Rattle.plc_mem.specs.Areas.{Areas, PeripheralBytes}
use Rattle.plc_mem.specs.BitPlace.{BitPlace, Region, Inputs, Outputs, BitMemory, PeripheralInputs, PeripheralOutputs, DataBlock}
use Rattle.plc_mem.specs.Bits.{bit_at, bit_of_byte, is_bit_one, region_byte, peripheral_byte}
use Rattle.plc_mem.specs.Fresh.{initial_memory}
use Rattle.plc_mem.specs.Number.{number_at_place, EachBitExists, region_read, region_written, operand_bit}
use Rattle.plc_mem.specs.Writing.{put_number, put_peripheral, put_in_block, number_written, number_written_in}
use Rattle.plc_mem.proofs.Lawful.{reads_where_each_bit_exists}
use Rattle.plc_mem.proofs.Runs.{PartPut, part_put, block_put, length-put, chained_value, mapped_value, in_low, in_high}
use Rattle.machine.specs.Code.{Code}
use Rattle.machine.specs.Fitting.{IsMemoryOf, SameParts, SameSizes, len_in}

pub same_parts : (p : PeripheralBytes) → SameParts p p
same_parts p = record { low = refl; high = refl }

pub same_sizes : (m : Areas) → SameSizes m m
same_sizes m = record {
  inputs = refl;
  outputs = refl;
  bit_memory = refl;
  peripheral_inputs = same_parts m.peripheral_inputs;
  peripheral_outputs = same_parts m.peripheral_outputs;
  data_blocks = λ number. refl;
}

parts_then : (p q r : PeripheralBytes) → SameParts p q → SameParts q r → SameParts p r
parts_then p q r first second = record { low = second.low ∙ first.low; high = second.high ∙ first.high }

pub sizes_then : (m n o : Areas) → SameSizes m n → SameSizes n o → SameSizes m o
sizes_then m n o first second = record {
  inputs = second.inputs ∙ first.inputs;
  outputs = second.outputs ∙ first.outputs;
  bit_memory = second.bit_memory ∙ first.bit_memory;
  peripheral_inputs =
      parts_then m.peripheral_inputs n.peripheral_inputs o.peripheral_inputs first.peripheral_inputs second.peripheral_inputs;
  peripheral_outputs =
      parts_then m.peripheral_outputs n.peripheral_outputs o.peripheral_outputs first.peripheral_outputs second.peripheral_outputs;
  data_blocks = λ number. second.data_blocks number ∙ first.data_blocks number;
}

pub memory_stays : (code : Code) (m n : Areas) → IsMemoryOf code m → SameSizes m n → IsMemoryOf code n
memory_stays code m n is same = record {
  profile = is.profile;
  sizes = sizes_then (initial_memory is.profile code.blocks) m n is.sizes same;
}

-- ---- places

some_bit : (test x y : Bool) → is_some (cond test (Some x) None) ≡ is_some (cond test (Some y) None)
some_bit true x y = refl
some_bit false x y = refl

run_bits :
    (xs ys : List ℕ) (n b : ℕ) → length ys ≡ length xs
    → is_some (bit_of_byte (slice_get ys n) b) ≡ is_some (bit_of_byte (slice_get xs n) b)
run_bits xs ys n b same = by (cases_lt n (length xs))
  where
    by : (n < length xs) ⊎ (length xs ≤ n) → is_some (bit_of_byte (slice_get ys n) b) ≡ is_some (bit_of_byte (slice_get xs n) b)
    by (inl within) =
        ap (λ (o : Option ℕ). is_some (bit_of_byte o b)) (slice_get-get_or ys n 0 (omega (arith, same, within)))
        ∙ some_bit _ (is_bit_one (get_or ys n 0) b) (is_bit_one (get_or xs n 0) b)
        ∙ sym (ap (λ (o : Option ℕ). is_some (bit_of_byte o b)) (slice_get-get_or xs n 0 within))
    by (inr past) =
        ap (λ (o : Option ℕ). is_some (bit_of_byte o b))
        (slice_get_past ys n (omega (arith, same, past)) ∙ sym (slice_get_past xs n past))

pub part_bits :
    (p q : PeripheralBytes) (n b : ℕ) → SameParts p q
    → is_some (bit_of_byte (peripheral_byte q n) b) ≡ is_some (bit_of_byte (peripheral_byte p n) b)
part_bits p q n b same = by (cases_lt n 256)
  where
    by : (n < 256) ⊎ (256 ≤ n) → is_some (bit_of_byte (peripheral_byte q n) b) ≡ is_some (bit_of_byte (peripheral_byte p n) b)
    by (inl low) = rw (in_low p n low, in_low q n low) (run_bits p.low q.low n b same.low)
    by (inr high) = rw (in_high p n high, in_high q n high) (run_bits p.high q.high (n - 256) b same.high)

block_bits :
    (o r : Option (List ℕ)) (n b : ℕ) → option_map length r ≡ option_map length o
    → is_some (bit_of_byte (option_and_then (λ (bytes : List ℕ). slice_get bytes n) r) b)
    ≡ is_some (bit_of_byte (option_and_then (λ (bytes : List ℕ). slice_get bytes n) o) b)
block_bits None None n b same = refl
block_bits (Some xs) (Some ys) n b same = let e : length ys ≡ length xs = cc in run_bits xs ys n b e
block_bits None (Some ys) n b same = absurd cc
block_bits (Some xs) None n b same = absurd cc

region_bits :
    (m n : Areas) (region : Region) (byte bit : ℕ) → SameSizes m n
    → is_some (bit_of_byte (region_byte n region byte) bit) ≡ is_some (bit_of_byte (region_byte m region byte) bit)
region_bits m n Inputs byte bit same = run_bits m.inputs n.inputs byte bit same.inputs
region_bits m n Outputs byte bit same = run_bits m.outputs n.outputs byte bit same.outputs
region_bits m n BitMemory byte bit same = run_bits m.bit_memory n.bit_memory byte bit same.bit_memory
region_bits m n PeripheralInputs byte bit same =
    part_bits m.peripheral_inputs n.peripheral_inputs byte bit same.peripheral_inputs
region_bits m n PeripheralOutputs byte bit same =
    part_bits m.peripheral_outputs n.peripheral_outputs byte bit same.peripheral_outputs
region_bits m n (DataBlock number) byte bit same =
    block_bits (finmap.get m.data_blocks number) (finmap.get n.data_blocks number) byte bit (same.data_blocks number)

pub bits_there :
    (m n : Areas) (at : BitPlace) → SameSizes m n → is_some (bit_at n at) ≡ is_some (bit_at m at)
unfolding bit_at
bits_there m n at same = region_bits m n at.region at.byte at.bit same

each_bit :
    (m n : Areas) (region : Option Region) (place : Place) (width : Width) → SameSizes m n
    → EachBitExists m region place width → EachBitExists n region place width
each_bit m n None place width same all = all
each_bit m n (Some region) place width same all =
    λ j below. bits_there m n (operand_bit region place width j) same ∙ all j below

pub numbers_there :
    (m n : Areas) (place : Place) (width : Width) → SameSizes m n → IsSome (number_at_place m place width)
    → IsSome (number_at_place n place width)
numbers_there m n place width same there =
    let before = reads_where_each_bit_exists m place width in
    let after = reads_where_each_bit_exists n place width in
    after.1 (each_bit m n (region_read place) place width same (before.0 there))

-- ---- writing

parts_put :
    (p q : PeripheralBytes) (at bit : ℕ) (width : Width) (value : ℕ) → put_peripheral p at bit width value ≡ Some q
    → SameParts p q
parts_put p q at bit width value done = by (part_put p q at bit width value done)
  where
    by : PartPut p q at bit width value → SameParts p q
    by (inl was) = rw (sym was.3) (record { low = length-put p.low was.0 at bit width value was.2; high = refl })
    by (inr was) = rw (sym was.3) (record { low = refl; high = length-put p.high was.0 (at - 256) bit width value was.2 })

or_before :
    (new : Option (List ℕ)) (bytes : List ℕ) → ((n : List ℕ) → new ≡ Some n → length n ≡ length bytes)
    → length (unwrap_or new bytes) ≡ length bytes
or_before (Some n) bytes h = h n refl
or_before None bytes h = refl

equal_is : (o : Ordering) → is_eq o ≡ true → o ≡ Equal
equal_is Equal e = refl
equal_is Less e = absurd cc
equal_is Greater e = absurd cc

len_after :
    (same : Bool) (bytes stored : List ℕ) (o : Option (List ℕ)) → (same ≡ true → o ≡ Some bytes)
    → length stored ≡ length bytes → option_map length (cond same (Some stored) o) ≡ option_map length o
len_after true bytes stored o found long = rw (found refl) (ap (λ (k : ℕ). Some k) long)
len_after false bytes stored o found long = refl

block_lens :
    (blocks new : finmap.FinMap nat_cmp (List ℕ)) (k at bit : ℕ) (width : Width) (value : ℕ)
    → put_in_block blocks k at bit width value ≡ Some new → (number : ℕ)
    → option_map length (finmap.get new number) ≡ option_map length (finmap.get blocks number)
block_lens blocks new k at bit width value done number =
    let was = block_put blocks new k at bit width value done in
    ap (λ (m : finmap.FinMap nat_cmp (List ℕ)). option_map length (finmap.get m number)) (sym was.4)
    ∙ ap (λ (o : Option (List ℕ)). option_map length o) (get-insert nat_cmp_total blocks k was.1 number)
    ∙ len_after (eq_by_cmp nat_cmp number k) was.0 was.1 (finmap.get blocks number)
    (λ e. ap (finmap.get blocks) (nat_cmp-IsAntisymmetric number k (equal_is (nat_cmp number k) e)) ∙ was.2)
    (length-put was.0 was.1 at bit width value was.3)

pub areas_of_same_sizes :
    (m : Areas) (inputs outputs bit_memory : List ℕ) (pin pout : PeripheralBytes) → length inputs ≡ length m.inputs
    → length outputs ≡ length m.outputs → length bit_memory ≡ length m.bit_memory → SameParts m.peripheral_inputs pin
    → SameParts m.peripheral_outputs pout
    → SameSizes m (record m {
      inputs = inputs;
      outputs = outputs;
      bit_memory = bit_memory;
      peripheral_inputs = pin;
      peripheral_outputs = pout;
    })
areas_of_same_sizes m inputs outputs bit_memory pin pout i o b pi po = record {
  inputs = i;
  outputs = o;
  bit_memory = b;
  peripheral_inputs = pi;
  peripheral_outputs = po;
  data_blocks = λ number. refl;
}

blocks_changed :
    (m : Areas) (blocks : finmap.FinMap nat_cmp (List ℕ))
    → ((number : ℕ) → option_map length (finmap.get blocks number) ≡ len_in m number)
    → SameSizes m (record m { data_blocks = blocks })
blocks_changed m blocks lens = record {
  inputs = refl;
  outputs = refl;
  bit_memory = refl;
  peripheral_inputs = same_parts m.peripheral_inputs;
  peripheral_outputs = same_parts m.peripheral_outputs;
  data_blocks = lens;
}

pub region_sizes :
    (m n : Areas) (region : Region) (byte bit : ℕ) (width : Width) (value : ℕ)
    → number_written_in m region byte bit width value ≡ Some n → SameSizes m n
region_sizes m n Inputs byte bit width value done =
    let was = mapped_value (λ (s : List ℕ). let r : Areas = record m { inputs = s } in r) (put_number m.inputs byte bit width value) n done in
    rw (sym was.2) (areas_of_same_sizes m was.0 m.outputs m.bit_memory m.peripheral_inputs m.peripheral_outputs
    (length-put m.inputs was.0 byte bit width value was.1) refl refl (same_parts m.peripheral_inputs) (same_parts m.peripheral_outputs))
region_sizes m n Outputs byte bit width value done =
    let was = mapped_value (λ (s : List ℕ). let r : Areas = record m { outputs = s } in r) (put_number m.outputs byte bit width value) n done in
    rw (sym was.2) (areas_of_same_sizes m m.inputs was.0 m.bit_memory m.peripheral_inputs m.peripheral_outputs
    refl (length-put m.outputs was.0 byte bit width value was.1) refl (same_parts m.peripheral_inputs) (same_parts m.peripheral_outputs))
region_sizes m n BitMemory byte bit width value done =
    let was = mapped_value (λ (s : List ℕ). let r : Areas = record m { bit_memory = s } in r) (put_number m.bit_memory byte bit width value) n done in
    rw (sym was.2) (areas_of_same_sizes m m.inputs m.outputs was.0 m.peripheral_inputs m.peripheral_outputs
    refl refl (length-put m.bit_memory was.0 byte bit width value was.1) (same_parts m.peripheral_inputs) (same_parts m.peripheral_outputs))
region_sizes m n PeripheralInputs byte bit width value done =
    let was = mapped_value (λ (p : PeripheralBytes). let r : Areas = record m { peripheral_inputs = p } in r)
    (put_peripheral m.peripheral_inputs byte bit width value) n done in
    rw (sym was.2) (areas_of_same_sizes m m.inputs m.outputs m.bit_memory was.0 m.peripheral_outputs
    refl refl refl (parts_put m.peripheral_inputs was.0 byte bit width value was.1) (same_parts m.peripheral_outputs))
region_sizes m n PeripheralOutputs byte bit width value done =
    let was = mapped_value (λ (p : PeripheralBytes). let r : Areas = record m {
      outputs = unwrap_or (put_number m.outputs byte bit width value) m.outputs;
      peripheral_outputs = p;
    } in r) (put_peripheral m.peripheral_outputs byte bit width value) n done in
    rw (sym was.2) (areas_of_same_sizes m m.inputs (unwrap_or (put_number m.outputs byte bit width value) m.outputs) m.bit_memory m.peripheral_inputs was.0
    refl (or_before (put_number m.outputs byte bit width value) m.outputs (λ s is. length-put m.outputs s byte bit width value is)) refl
    (same_parts m.peripheral_inputs) (parts_put m.peripheral_outputs was.0 byte bit width value was.1))
region_sizes m n (DataBlock k) byte bit width value done =
    let was = mapped_value (λ (blocks : finmap.FinMap nat_cmp (List ℕ)). let r : Areas = record m { data_blocks = blocks } in r)
    (put_in_block m.data_blocks k byte bit width value) n done in
    rw (sym was.2) (blocks_changed m was.0 (λ number. block_lens m.data_blocks was.0 k byte bit width value was.1 number))

pub writing_sizes :
    (m n : Areas) (place : Place) (width : Width) (value : ℕ) → number_written m place width value ≡ Some n
    → SameSizes m n
unfolding number_written
writing_sizes m n place width value done =
    let found = chained_value (λ (region : Region). number_written_in m region place.byte place.bit width value) (region_written place) n done in
    region_sizes m n found.0 place.byte place.bit width value found.2
