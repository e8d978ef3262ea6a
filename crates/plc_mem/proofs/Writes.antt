-- A write to memory gives the one memory with the number there and every other bit as before.
use Rattle.std.proofs.Common.{◌≡◌, Bool, true, false, ℕ, ◌+◌, ◌^◌, ◌<◌, ◌≤◌, List, length, refl, sym, ap, ◌∙◌, subst, arith, Option, Some, None, true, slice_get, ◌⊎◌, inl, inr, unwrap_or, cond, nat_eq, nat_lt, nat_le, ◌&&◌}
use Rattle.std.specs.Option.{option_map, option_and_then}
use Rattle.std.specs.FinMap as map
use Rattle.plc_base.specs.declared.Width.{Width}
use Rattle.plc_base.specs.declared.Width.TheVariants.{Bit, Byte, Word, Dword}
use Rattle.plc_base.specs.declared.Place.{Place}
use Rattle.plc_base.specs.declared.Area.{Area}
use Rattle.plc_base.specs.declared.Area.TheVariants.{P, I, Q, M, Db, Di, L}
use Rattle.plc_mem.specs.Areas.{Areas, PeripheralBytes}
use Rattle.plc_mem.specs.BitPlace.{Region, Inputs, Outputs, BitMemory, PeripheralInputs, PeripheralOutputs, DataBlock}
use Rattle.plc_mem.specs.Bits.{bit_at, bit_of_byte, region_byte}
use Rattle.plc_base.specs.Widths.{bit_count}
use Rattle.plc_mem.specs.Number.{region_number, region_of, region_written}
use Rattle.plc_mem.specs.Places.{HasImage}
use Rattle.plc_mem.specs.Run.{number_over}
use Rattle.plc_mem.specs.Writing.{is_within, bytes_with_number, put_number, put_peripheral, put_in_block, number_written_in, number_written}
use Rattle.plc_mem.specs.WrittenBits.{IsNumberWrittenIn, IsNumberWritten, bit_after_write, value_of_bit, weight_in}
use Rattle.std.specs.Ordering.{nat_cmp}
use Rattle.std.proofs.lemmas.Option.{slice_get_past}
use Rattle.plc_mem.proofs.Numbers.{no_byte}
use Rattle.plc_mem.proofs.Runs.{mapped_value, part_put, put_done, bit_stays, none_some, run_after, run_holds, peripheral_after, peripheral_holds, block_after, block_holds, block_loaded}
use Rattle.plc_mem.proofs.StoredNumbers.{kept_bit}

-- the number in an operand of a region is that of its bytes
pub number_of_region : (m : Areas) (region : Region) (place : Place) (width : Width) → region_number m region place width ≡ number_over (region_byte m region) place.byte place.bit width
unfolding region_number number_over bit_at
number_of_region m region place Bit = refl
number_of_region m region place Byte = refl
number_of_region m region place Word = refl
number_of_region m region place Dword = refl

inputs_bits : (m : Areas) (new : List ℕ) (at bit : ℕ) (width : Width) (value : ℕ) → value < 2 ^ bit_count width → put_number m.inputs at bit width value ≡ Some new → (region : Region) (n b : ℕ)
    → bit_at (record m { inputs = new }) (record { region = region; byte = n; bit = b }) ≡ option_map (bit_after_write Inputs at bit width value (record { region = region; byte = n; bit = b })) (bit_at m (record { region = region; byte = n; bit = b }))
unfolding bit_at
inputs_bits m new at bit width value fits done Inputs n b = run_after m.inputs new at bit width value fits done n b
inputs_bits m new at bit width value fits done region n b = kept_bit (bit_at m (record { region = region; byte = n; bit = b }))

inputs_written : (m n : Areas) (place : Place) (width : Width) (value : ℕ) → value < 2 ^ bit_count width → number_written_in m Inputs place.byte place.bit width value ≡ Some n → IsNumberWrittenIn m n Inputs place width value
inputs_written m n place width value fits done =
    let was = mapped_value (λ (s : List ℕ). let r : Areas = record m { inputs = s } in r) (put_number m.inputs place.byte place.bit width value) n done in
    let now : Areas = record m { inputs = was.0 } in
    subst (λ (r : Areas). IsNumberWrittenIn m r Inputs place width value) was.2 (record {
      number = number_of_region now Inputs place width ∙ run_holds m.inputs was.0 place.byte place.bit width value fits was.1;
      bits = λ q. inputs_bits m was.0 place.byte place.bit width value fits was.1 q.region q.byte q.bit;
      blocks = λ k. refl;
    })

outputs_bits : (m : Areas) (new : List ℕ) (at bit : ℕ) (width : Width) (value : ℕ) → value < 2 ^ bit_count width → put_number m.outputs at bit width value ≡ Some new → (region : Region) (n b : ℕ)
    → bit_at (record m { outputs = new }) (record { region = region; byte = n; bit = b }) ≡ option_map (bit_after_write Outputs at bit width value (record { region = region; byte = n; bit = b })) (bit_at m (record { region = region; byte = n; bit = b }))
unfolding bit_at
outputs_bits m new at bit width value fits done Outputs n b = run_after m.outputs new at bit width value fits done n b
outputs_bits m new at bit width value fits done region n b = kept_bit (bit_at m (record { region = region; byte = n; bit = b }))

outputs_written : (m n : Areas) (place : Place) (width : Width) (value : ℕ) → value < 2 ^ bit_count width → number_written_in m Outputs place.byte place.bit width value ≡ Some n → IsNumberWrittenIn m n Outputs place width value
outputs_written m n place width value fits done =
    let was = mapped_value (λ (s : List ℕ). let r : Areas = record m { outputs = s } in r) (put_number m.outputs place.byte place.bit width value) n done in
    let now : Areas = record m { outputs = was.0 } in
    subst (λ (r : Areas). IsNumberWrittenIn m r Outputs place width value) was.2 (record {
      number = number_of_region now Outputs place width ∙ run_holds m.outputs was.0 place.byte place.bit width value fits was.1;
      bits = λ q. outputs_bits m was.0 place.byte place.bit width value fits was.1 q.region q.byte q.bit;
      blocks = λ k. refl;
    })

memory_bits : (m : Areas) (new : List ℕ) (at bit : ℕ) (width : Width) (value : ℕ) → value < 2 ^ bit_count width → put_number m.bit_memory at bit width value ≡ Some new → (region : Region) (n b : ℕ)
    → bit_at (record m { bit_memory = new }) (record { region = region; byte = n; bit = b }) ≡ option_map (bit_after_write BitMemory at bit width value (record { region = region; byte = n; bit = b })) (bit_at m (record { region = region; byte = n; bit = b }))
unfolding bit_at
memory_bits m new at bit width value fits done BitMemory n b = run_after m.bit_memory new at bit width value fits done n b
memory_bits m new at bit width value fits done region n b = kept_bit (bit_at m (record { region = region; byte = n; bit = b }))

memory_written : (m n : Areas) (place : Place) (width : Width) (value : ℕ) → value < 2 ^ bit_count width → number_written_in m BitMemory place.byte place.bit width value ≡ Some n → IsNumberWrittenIn m n BitMemory place width value
memory_written m n place width value fits done =
    let was = mapped_value (λ (s : List ℕ). let r : Areas = record m { bit_memory = s } in r) (put_number m.bit_memory place.byte place.bit width value) n done in
    let now : Areas = record m { bit_memory = was.0 } in
    subst (λ (r : Areas). IsNumberWrittenIn m r BitMemory place width value) was.2 (record {
      number = number_of_region now BitMemory place width ∙ run_holds m.bit_memory was.0 place.byte place.bit width value fits was.1;
      bits = λ q. memory_bits m was.0 place.byte place.bit width value fits was.1 q.region q.byte q.bit;
      blocks = λ k. refl;
    })

peripheral_inputs_bits : (m : Areas) (new : PeripheralBytes) (at bit : ℕ) (width : Width) (value : ℕ) → length m.peripheral_inputs.low ≡ 128 → value < 2 ^ bit_count width → put_peripheral m.peripheral_inputs at bit width value ≡ Some new → (region : Region) (n b : ℕ)
    → bit_at (record m { peripheral_inputs = new }) (record { region = region; byte = n; bit = b }) ≡ option_map (bit_after_write PeripheralInputs at bit width value (record { region = region; byte = n; bit = b })) (bit_at m (record { region = region; byte = n; bit = b }))
unfolding bit_at
peripheral_inputs_bits m new at bit width value sizes fits done PeripheralInputs n b = peripheral_after m.peripheral_inputs new at bit width value (omega (arith, sizes)) fits done n b
peripheral_inputs_bits m new at bit width value sizes fits done region n b = kept_bit (bit_at m (record { region = region; byte = n; bit = b }))

peripheral_inputs_written : (m n : Areas) (place : Place) (width : Width) (value : ℕ) → length m.peripheral_inputs.low ≡ 128 → value < 2 ^ bit_count width → number_written_in m PeripheralInputs place.byte place.bit width value ≡ Some n → IsNumberWrittenIn m n PeripheralInputs place width value
peripheral_inputs_written m n place width value sizes fits done =
    let was = mapped_value (λ (p : PeripheralBytes). let r : Areas = record m { peripheral_inputs = p } in r) (put_peripheral m.peripheral_inputs place.byte place.bit width value) n done in
    let now : Areas = record m { peripheral_inputs = was.0 } in
    subst (λ (r : Areas). IsNumberWrittenIn m r PeripheralInputs place width value) was.2 (record {
      number = number_of_region now PeripheralInputs place width ∙ peripheral_holds m.peripheral_inputs was.0 place.byte place.bit width value (omega (arith, sizes)) fits was.1;
      bits = λ q. peripheral_inputs_bits m was.0 place.byte place.bit width value sizes fits was.1 q.region q.byte q.bit;
      blocks = λ k. refl;
    })

within_same : (xs ys : List ℕ) (at bit : ℕ) (width : Width) → length xs ≡ length ys → is_within xs at bit width ≡ is_within ys at bit width
within_same xs ys at bit Bit same = ap (λ (n : ℕ). nat_lt at n && nat_lt bit 8) same
within_same xs ys at bit Byte same = ap (nat_le (at + 1)) same
within_same xs ys at bit Word same = ap (nat_le (at + 2)) same
within_same xs ys at bit Dword same = ap (nat_le (at + 4)) same

put_fits : (xs : List ℕ) (at bit : ℕ) (width : Width) (value : ℕ) → is_within xs at bit width ≡ true → put_number xs at bit width value ≡ Some (bytes_with_number xs at bit width value)
unfolding put_number
put_fits xs at bit width value within = rw within refl

below_or_past : (n : ℕ) → (n < 128) ⊎ (128 ≤ n)
below_or_past n = grind arith

-- the process image after a write to peripheral outputs, whether the operand lies in it or not
image_after :
    (m : Areas) (q : PeripheralBytes) (at bit : ℕ) (width : Width) (value : ℕ)
    → HasImage m
    → value < 2 ^ bit_count width
    → put_peripheral m.peripheral_outputs at bit width value ≡ Some q
    → (n b : ℕ)
    → (o : Option (List ℕ))
    → put_number m.outputs at bit width value ≡ o
    → bit_of_byte (slice_get (unwrap_or o m.outputs) n) b ≡ option_map (value_of_bit value (weight_in at bit width n b)) (bit_of_byte (slice_get m.outputs n) b)
image_after m q at bit width value sizes fits done n b (Some new) e = run_after m.outputs new at bit width value fits e n b
image_after m q at bit width value sizes fits done n b None e =
    elim (part_put m.peripheral_outputs q at bit width value done) [
      | inl w ↦
          let was = put_done m.peripheral_outputs.low w.0 at bit width value w.2 in
          let within = within_same m.outputs m.peripheral_outputs.low at bit width (sizes.image ∙ sym sizes.outputs_low) ∙ was.0 in
          absurd (none_some (bytes_with_number m.outputs at bit width value) (sym e ∙ put_fits m.outputs at bit width value within))
      | inr w ↦
          elim (below_or_past n) [
            | inl below ↦ bit_stays (slice_get m.outputs n) (slice_get m.outputs n) at bit width value n b (inl (omega (arith, w.1))) refl
            | inr past ↦
                let none : slice_get m.outputs n ≡ None = slice_get_past m.outputs n (omega (arith, sizes.image)) in
                ap (λ (o : Option ℕ). bit_of_byte o b) none ∙ no_byte (nat_lt b 8) b
                ∙ sym (ap (λ (o : Option ℕ). option_map (value_of_bit value (weight_in at bit width n b)) (bit_of_byte o b)) none ∙ ap (option_map (value_of_bit value (weight_in at bit width n b))) (no_byte (nat_lt b 8) b))
          ]
    ]

peripheral_outputs_bits : (m : Areas) (new : PeripheralBytes) (at bit : ℕ) (width : Width) (value : ℕ) → HasImage m → value < 2 ^ bit_count width → put_peripheral m.peripheral_outputs at bit width value ≡ Some new → (region : Region) (n b : ℕ)
    → bit_at (record m { outputs = unwrap_or (put_number m.outputs at bit width value) m.outputs; peripheral_outputs = new }) (record { region = region; byte = n; bit = b }) ≡ option_map (bit_after_write PeripheralOutputs at bit width value (record { region = region; byte = n; bit = b })) (bit_at m (record { region = region; byte = n; bit = b }))
unfolding bit_at
peripheral_outputs_bits m new at bit width value sizes fits done PeripheralOutputs n b = peripheral_after m.peripheral_outputs new at bit width value (omega (arith, sizes.outputs_low)) fits done n b
peripheral_outputs_bits m new at bit width value sizes fits done Outputs n b = image_after m new at bit width value sizes fits done n b (put_number m.outputs at bit width value) refl
peripheral_outputs_bits m new at bit width value sizes fits done region n b = kept_bit (bit_at m (record { region = region; byte = n; bit = b }))

peripheral_outputs_written : (m n : Areas) (place : Place) (width : Width) (value : ℕ) → HasImage m → value < 2 ^ bit_count width → number_written_in m PeripheralOutputs place.byte place.bit width value ≡ Some n → IsNumberWrittenIn m n PeripheralOutputs place width value
peripheral_outputs_written m n place width value sizes fits done =
    let was = mapped_value (λ (p : PeripheralBytes). let r : Areas = record m { outputs = unwrap_or (put_number m.outputs place.byte place.bit width value) m.outputs; peripheral_outputs = p } in r) (put_peripheral m.peripheral_outputs place.byte place.bit width value) n done in
    let now : Areas = record m { outputs = unwrap_or (put_number m.outputs place.byte place.bit width value) m.outputs; peripheral_outputs = was.0 } in
    subst (λ (r : Areas). IsNumberWrittenIn m r PeripheralOutputs place width value) was.2 (record {
      number = number_of_region now PeripheralOutputs place width ∙ peripheral_holds m.peripheral_outputs was.0 place.byte place.bit width value (omega (arith, sizes.outputs_low)) fits was.1;
      bits = λ q. peripheral_outputs_bits m was.0 place.byte place.bit width value sizes fits was.1 q.region q.byte q.bit;
      blocks = λ k. refl;
    })

block_bits : (m : Areas) (new : map.FinMap nat_cmp (List ℕ)) (k at bit : ℕ) (width : Width) (value : ℕ) → value < 2 ^ bit_count width → put_in_block m.data_blocks k at bit width value ≡ Some new → (region : Region) (n b : ℕ)
    → bit_at (record m { data_blocks = new }) (record { region = region; byte = n; bit = b }) ≡ option_map (bit_after_write (DataBlock k) at bit width value (record { region = region; byte = n; bit = b })) (bit_at m (record { region = region; byte = n; bit = b }))
unfolding bit_at
block_bits m new k at bit width value fits done (DataBlock r) n b = block_after m.data_blocks new k at bit width value fits done r n b
block_bits m new k at bit width value fits done region n b = kept_bit (bit_at m (record { region = region; byte = n; bit = b }))

block_written : (m n : Areas) (k : ℕ) (place : Place) (width : Width) (value : ℕ) → value < 2 ^ bit_count width → number_written_in m (DataBlock k) place.byte place.bit width value ≡ Some n → IsNumberWrittenIn m n (DataBlock k) place width value
block_written m n k place width value fits done =
    let was = mapped_value (λ (blocks : map.FinMap nat_cmp (List ℕ)). let r : Areas = record m { data_blocks = blocks } in r) (put_in_block m.data_blocks k place.byte place.bit width value) n done in
    let now : Areas = record m { data_blocks = was.0 } in
    subst (λ (r : Areas). IsNumberWrittenIn m r (DataBlock k) place width value) was.2 (record {
      number = number_of_region now (DataBlock k) place width ∙ block_holds m.data_blocks was.0 k place.byte place.bit width value fits was.1;
      bits = λ q. block_bits m was.0 k place.byte place.bit width value fits was.1 q.region q.byte q.bit;
      blocks = block_loaded m.data_blocks was.0 k place.byte place.bit width value was.1;
    })

-- what was written to peripheral inputs
pub input_written : (m n : Areas) (place : Place) (width : Width) (value : ℕ) → length m.peripheral_inputs.low ≡ 128 → value < 2 ^ bit_count width → number_written_in m PeripheralInputs place.byte place.bit width value ≡ Some n → IsNumberWrittenIn m n PeripheralInputs place width value
input_written m n place width value size fits done = peripheral_inputs_written m n place width value size fits done

-- an area that stands with number 0 alone
lone_region :
    (m n : Areas) (region : Region) (place : Place) (width : Width) (value : ℕ) (is_zero : Bool)
    → (is_zero ≡ true → number_written_in m region place.byte place.bit width value ≡ Some n → IsNumberWrittenIn m n region place width value)
    → option_and_then (λ (r : Region). number_written_in m r place.byte place.bit width value) (cond is_zero (Some region) None) ≡ Some n
    → (r : Region) × (cond is_zero (Some region) None ≡ Some r) × IsNumberWrittenIn m n r place width value
lone_region m n region place width value true is done = (region, refl, is refl done)
lone_region m n region place width value false is done = absurd (none_some n done)

written_by_area :
    (m n : Areas) (area : Area) (place : Place) (width : Width) (value : ℕ)
    → (region_of PeripheralOutputs area place.number ≡ Some PeripheralOutputs → HasImage m)
    → value < 2 ^ bit_count width
    → option_and_then (λ (r : Region). number_written_in m r place.byte place.bit width value) (region_of PeripheralOutputs area place.number) ≡ Some n
    → (r : Region) × (region_of PeripheralOutputs area place.number ≡ Some r) × IsNumberWrittenIn m n r place width value
written_by_area m n P place width value sizes fits done =
    lone_region m n PeripheralOutputs place width value (nat_eq place.number 0)
    (λ zero_number. peripheral_outputs_written m n place width value (sizes (ap (λ (t : Bool). let r : Option Region = cond t (Some PeripheralOutputs) None in r) zero_number)) fits)
    done
written_by_area m n I place width value sizes fits done = lone_region m n Inputs place width value (nat_eq place.number 0) (λ _. inputs_written m n place width value fits) done
written_by_area m n Q place width value sizes fits done = lone_region m n Outputs place width value (nat_eq place.number 0) (λ _. outputs_written m n place width value fits) done
written_by_area m n M place width value sizes fits done = lone_region m n BitMemory place width value (nat_eq place.number 0) (λ _. memory_written m n place width value fits) done
written_by_area m n Db place width value sizes fits done = (DataBlock place.number, refl, block_written m n place.number place width value fits done)
written_by_area m n Di place width value sizes fits done = absurd (none_some n done)
written_by_area m n L place width value sizes fits done = absurd (none_some n done)

-- a write at a place
pub written_is : (m n : Areas) (place : Place) (width : Width) (value : ℕ) → (region_written place ≡ Some PeripheralOutputs → HasImage m) → value < 2 ^ bit_count width → number_written m place width value ≡ Some n → IsNumberWritten m n place width value
unfolding number_written
written_is m n place width value sizes fits done = written_by_area m n place.area place width value sizes fits done
