-- Writing a number at a place.
use Rattle.std.specs.Prelude.{ℕ, ◌+◌, ◌-◌, ◌*◌, ◌/◌, ◌%◌, ◌^◌, List, length, Option, Some, None, Bool, ◌&&◌, nat_lt, nat_le, slice_index, slice_set, option_and_then, unwrap_or, if◌then◌else◌}
use Rattle.std.specs.Option.{option_map}
use Rattle.std.specs.Int as int
use Rattle.std.specs.FinMap as map
use Rattle.std.specs.Ordering.{nat_cmp}
use Rattle.plc_base.specs.declared.Width.{Width}
use Rattle.plc_base.specs.declared.Width.TheVariants.{Bit, Byte, Word, Dword}
use Rattle.plc_base.specs.declared.Place.{Place}
use Rattle.plc_base.specs.AreaBytes.{upper_start}
use Rattle.plc_mem.specs.Areas.{Areas, PeripheralBytes}
use Rattle.plc_mem.specs.BitPlace.{Region, Inputs, Outputs, BitMemory, PeripheralInputs, PeripheralOutputs, DataBlock}
use Rattle.plc_base.specs.Widths.{byte_count}
use Rattle.plc_mem.specs.Number.{region_written}

-- A byte in which bit k is the value, 0 or 1, and every other bit as before.
abbrev pub byte_with_bit : ℕ → ℕ → ℕ → ℕ
byte_with_bit byte k value = byte + value * 2 ^ k - int.bit_at byte k * 2 ^ k

-- Whether the operand from byte `at` on lies within a list of bytes; a bit operand also needs a bit
-- number of at most 7.
abbrev pub is_within : List ℕ → (at bit : ℕ) → Width → Bool
is_within bytes at bit Bit = nat_lt at (length bytes) && nat_lt bit 8
is_within bytes at bit width = nat_le (at + byte_count width) (length bytes)

-- A list of bytes with a number written to the operand from byte `at` on, which lies within it; the
-- first byte weighs most.
abbrev pub bytes_with_number : List ℕ → (at bit : ℕ) → Width → ℕ → List ℕ
bytes_with_number bytes at bit Bit value =
    slice_set bytes at (byte_with_bit (slice_index bytes at) bit value)
bytes_with_number bytes at bit Byte value = slice_set bytes at value
bytes_with_number bytes at bit Word value =
    slice_set (slice_set bytes at (value / 2 ^ 8)) (at + 1) (value % 2 ^ 8)
bytes_with_number bytes at bit Dword value =
    slice_set
    (slice_set
    (slice_set (slice_set bytes at (value / 2 ^ 24)) (at + 1) (value / 2 ^ 16 % 2 ^ 8))
    (at + 2)
    (value / 2 ^ 8 % 2 ^ 8))
    (at + 3)
    (value % 2 ^ 8)

-- A list of bytes with a number written to the operand from byte `at` on, if the operand lies
-- within the list.
unfoldable pub put_number : List ℕ → (at bit : ℕ) → Width → ℕ → Option (List ℕ)
put_number bytes at bit width value =
    if is_within bytes at bit width then Some (bytes_with_number bytes at bit width value) else None

-- A peripheral area with a number written to an operand, if the operand lies within one of the two
-- parts.
unfoldable pub put_peripheral :
    PeripheralBytes → (byte bit : ℕ) → Width → ℕ → Option PeripheralBytes
put_peripheral p byte bit width value =
    if nat_lt byte upper_start
    then option_map (λ bytes. record p { low = bytes }) (put_number p.low byte bit width value)
    else option_map (λ bytes. record p { high = bytes })
    (put_number p.high (byte - upper_start) bit width value)

-- Loaded data blocks with a number written to an operand of one of them, if that is loaded and the
-- operand lies within it.
unfoldable pub put_in_block :
    map.FinMap nat_cmp (List ℕ) → (number byte bit : ℕ) → Width → ℕ
    → Option (map.FinMap nat_cmp (List ℕ))
put_in_block blocks number byte bit width value =
    option_and_then
    (λ bytes.
    option_map (λ new. map.insert blocks number new) (put_number bytes byte bit width value))
    (map.get blocks number)

-- The memory with a number written to an operand of a region, if the operand lies within the
-- region. What is written to peripheral outputs (PQ) is written to the process image of the outputs
-- (Q) as well, where that has these bytes.
abbrev pub number_written_in : Areas → Region → (byte bit : ℕ) → Width → ℕ → Option Areas
number_written_in m Inputs byte bit width value =
    option_map (λ bytes. record m { inputs = bytes }) (put_number m.inputs byte bit width value)
number_written_in m Outputs byte bit width value =
    option_map (λ bytes. record m { outputs = bytes }) (put_number m.outputs byte bit width value)
number_written_in m BitMemory byte bit width value =
    option_map (λ bytes. record m { bit_memory = bytes })
    (put_number m.bit_memory byte bit width value)
number_written_in m PeripheralInputs byte bit width value =
    option_map
    (λ p. record m { peripheral_inputs = p })
    (put_peripheral m.peripheral_inputs byte bit width value)
number_written_in m PeripheralOutputs byte bit width value =
    option_map
    (λ p. record m {
      outputs = unwrap_or (put_number m.outputs byte bit width value) m.outputs;
      peripheral_outputs = p;
    })
    (put_peripheral m.peripheral_outputs byte bit width value)
number_written_in m (DataBlock number) byte bit width value =
    option_map
    (λ blocks. record m { data_blocks = blocks })
    (put_in_block m.data_blocks number byte bit width value)

-- The memory with a number written at a place and width, if each bit of the operand exists.
unfoldable pub number_written : Areas → Place → Width → ℕ → Option Areas
number_written m place width value =
    option_and_then
    (λ region. number_written_in m region place.byte place.bit width value)
    (region_written place)
