-- Memory as the finite map from bit places to truth values.
use Rattle.std.specs.Prelude.{ℕ, ◌-◌, List, Option, None, Bool, nat_lt, nat_eq, slice_get, option_and_then, if◌then◌else◌}
use Rattle.std.specs.Option.{option_map}
use Rattle.std.specs.Int as int
use Rattle.std.specs.FinMap as map
use Rattle.std.specs.Ordering.{nat_cmp}
use Rattle.plc_base.specs.AreaBytes.{upper_start}
use Rattle.plc_mem.specs.Areas.{Areas, PeripheralBytes}
use Rattle.plc_mem.specs.BitPlace.{BitPlace, Region, Inputs, Outputs, BitMemory, PeripheralInputs, PeripheralOutputs, DataBlock}

-- The peripheral byte with a number, if there is one: none between the two parts, bytes 0 to 127
-- and bytes 256 to 767.
abbrev pub peripheral_byte : PeripheralBytes → ℕ → Option ℕ
peripheral_byte p n =
    if nat_lt n upper_start then slice_get p.low n else slice_get p.high (n - upper_start)

-- The byte with a number in the data block with a number, if the data block is loaded and has the
-- byte.
abbrev pub block_byte : map.FinMap nat_cmp (List ℕ) → (number : ℕ) → ℕ → Option ℕ
block_byte blocks number n = option_and_then (λ bytes. slice_get bytes n) (map.get blocks number)

-- The byte with a number in a region, if there is one.
abbrev pub region_byte : Areas → Region → ℕ → Option ℕ
region_byte m Inputs n = slice_get m.inputs n
region_byte m Outputs n = slice_get m.outputs n
region_byte m BitMemory n = slice_get m.bit_memory n
region_byte m PeripheralInputs n = peripheral_byte m.peripheral_inputs n
region_byte m PeripheralOutputs n = peripheral_byte m.peripheral_outputs n
region_byte m (DataBlock number) n = block_byte m.data_blocks number n

-- Whether bit k of a number, which weighs 2 ^ k, is 1.
abbrev pub is_bit_one : ℕ → ℕ → Bool
is_bit_one n k = nat_eq (int.bit_at n k) 1

-- Bit k of a byte, 0 the least significant, if the byte exists and k is at most 7.
abbrev pub bit_of_byte : Option ℕ → ℕ → Option Bool
bit_of_byte byte k = if nat_lt k 8 then option_map (λ n. is_bit_one n k) byte else None

-- The truth value at a bit place, if the place exists.
unfoldable pub bit_at : Areas → BitPlace → Option Bool
bit_at m place = bit_of_byte (region_byte m place.region place.byte) place.bit
