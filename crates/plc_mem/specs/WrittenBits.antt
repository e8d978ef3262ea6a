-- What writing a number at a place is, said of bits.
use Rattle.std.specs.Prelude.{◌≡◌, ℕ, ◌+◌, ◌-◌, ◌*◌, Option, Some, None, Bool, true, false, ◌&&◌, nat_eq, nat_lt, nat_le, if◌then◌else◌}
use Rattle.std.specs.Option.{option_map}
use Rattle.plc_base.specs.declared.Width.{Width}
use Rattle.plc_base.specs.declared.Width.TheVariants.{Bit}
use Rattle.plc_base.specs.declared.Place.{Place}
use Rattle.plc_mem.specs.Areas.{Areas}
use Rattle.plc_mem.specs.BitPlace.{BitPlace, Region, Inputs, Outputs, BitMemory, PeripheralInputs, PeripheralOutputs, DataBlock}
use Rattle.plc_mem.specs.Bits.{bit_at, is_bit_one}
use Rattle.plc_base.specs.Widths.{byte_count}
use Rattle.plc_mem.specs.Number.{region_number, region_written}
use Rattle.plc_mem.specs.Places.{SameBlocks}

-- The power j of the weight 2 ^ j that bit b of a byte has in the operand from byte `at` on, if the
-- bit is one of the operand: in an operand of k bytes, bit b of byte at + i weighs 2 ^ (8 * (k - 1
-- - i) + b).
abbrev pub weight_in : (at bit : ℕ) → Width → (byte b : ℕ) → Option ℕ
weight_in at bit Bit byte b = if nat_eq byte at && nat_eq b bit then Some 0 else None
weight_in at bit width byte b =
    if nat_le at byte && nat_lt byte (at + byte_count width)
    then Some (8 * (byte_count width - 1 - (byte - at)) + b)
    else None

-- The truth value of a bit after a write: the bit of the number written that has the weight, and
-- the bit as before where the operand has no such weight.
abbrev pub value_of_bit : ℕ → Option ℕ → Bool → Bool
value_of_bit value (Some weight) before = is_bit_one value weight
value_of_bit value None before = before

-- Whether a write to one region sets bits of the other: each region with itself, and the process
-- image of the outputs (Q) with the peripheral outputs (PQ).
abbrev pub is_set_with : (written other : Region) → Bool
is_set_with Inputs Inputs = true
is_set_with Outputs Outputs = true
is_set_with BitMemory BitMemory = true
is_set_with PeripheralInputs PeripheralInputs = true
is_set_with PeripheralOutputs PeripheralOutputs = true
is_set_with PeripheralOutputs Outputs = true
is_set_with (DataBlock n) (DataBlock k) = nat_eq n k
is_set_with written other = false

-- The truth value at a bit place after a number is written to an operand of a region, given the
-- truth value before.
abbrev pub bit_after_write : Region → (at bit : ℕ) → Width → ℕ → BitPlace → Bool → Bool
bit_after_write region at bit width value place before =
    if is_set_with region place.region
    then value_of_bit value (weight_in at bit width place.byte place.bit) before
    else before

-- Between two memories a number is written to an operand of a region: the operand has the number,
-- and every other bit is as before. What is written to peripheral outputs (PQ) is written to the
-- process image of the outputs (Q) as well, as far as that has these bytes.
pub record IsNumberWrittenIn
    (old new : Areas) (region : Region) (place : Place) (width : Width) (value : ℕ)
    : Type 0 where
  -- the number in the operand is the one written
  pub number : region_number new region place width ≡ Some value
  -- each bit is that of the number, or as before where it is not one of the operand
  pub bits :
      (at : BitPlace)
      → bit_at new at
      ≡ option_map (bit_after_write region place.byte place.bit width value at) (bit_at old at)
  -- the same data blocks are loaded
  pub blocks : SameBlocks old new

-- Between two memories a number is written at a place and width, in the region that writing the
-- place means.
abbrev pub IsNumberWritten : (old new : Areas) → Place → Width → ℕ → Type 0
IsNumberWritten old new place width value =
    (region : Region) × (region_written place ≡ Some region)
    × IsNumberWrittenIn old new region place width value
