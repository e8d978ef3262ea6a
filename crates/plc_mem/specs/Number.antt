-- The number at a place.
use Rattle.std.specs.Prelude.{ℕ, zero, suc, ◌<◌, IsSome, ◌+◌, ◌-◌, ◌/◌, ◌%◌, ◌^◌, Option, Some, None, Bool, option_and_then, nat_eq, if◌then◌else◌}
use Rattle.plc_base.specs.declared.Width.{Width}
use Rattle.plc_base.specs.declared.Width.TheVariants.{Bit}
use Rattle.plc_base.specs.Widths.{byte_count, bit_count}
use Rattle.plc_base.specs.declared.Area.{Area}
use Rattle.plc_base.specs.declared.Area.TheVariants.{P, I, Q, M, Db, Di, L}
use Rattle.plc_base.specs.declared.Place.{Place}
use Rattle.plc_mem.specs.Areas.{Areas}
use Rattle.plc_mem.specs.BitPlace.{BitPlace, Region, Inputs, Outputs, BitMemory, PeripheralInputs, PeripheralOutputs, DataBlock}
use Rattle.plc_mem.specs.Bits.{bit_at}

-- The region in which the operand of an area and a data block number lies, given which peripheral
-- region area P means. Areas DI and L lie in no region, and areas other than DB have the number 0.
abbrev pub region_of : Region → Area → ℕ → Option Region
region_of peripheral Db number = Some (DataBlock number)
region_of peripheral P number = if nat_eq number 0 then Some peripheral else None
region_of peripheral I number = if nat_eq number 0 then Some Inputs else None
region_of peripheral Q number = if nat_eq number 0 then Some Outputs else None
region_of peripheral M number = if nat_eq number 0 then Some BitMemory else None
region_of peripheral Di number = None
region_of peripheral L number = None

-- The region that reading a place means; of area P it is the peripheral inputs.
abbrev pub region_read : Place → Option Region
region_read place = region_of PeripheralInputs place.area place.number

-- The region that writing a place means; of area P it is the peripheral outputs.
abbrev pub region_written : Place → Option Region
region_written place = region_of PeripheralOutputs place.area place.number

-- The place of the bit of an operand that weighs 2 ^ j. Memory is big-endian: in k bytes from byte
-- n, bit b of byte n + i weighs 2 ^ (8 * (k - 1 - i) + b).
abbrev pub operand_bit : Region → Place → Width → ℕ → BitPlace
operand_bit region place Bit j = record { region = region; byte = place.byte; bit = place.bit }
operand_bit region place width j =
    record { region = region; byte = place.byte + (byte_count width - 1 - j / 8); bit = j % 8 }

-- A sum so far, and 2 ^ j more if bit j is 1; none where the sum or the bit is none.
abbrev pub plus_weight : ℕ → Option ℕ → Option Bool → Option ℕ
plus_weight j (Some n) (Some one) = Some (n + (if one then 2 ^ j else 0))
plus_weight j None bit = None
plus_weight j n None = None

-- The sum of the weights 2 ^ j, for j below a count, of the bits that are 1, if all these bits
-- exist.
unfoldable pub weights_of : (ℕ → Option Bool) → ℕ → Option ℕ
weights_of bits zero = Some 0
weights_of bits (suc j) = plus_weight j (weights_of bits j) (bits j)

-- The unsigned number in an operand of a region, if each bit of the operand exists.
unfoldable pub region_number : Areas → Region → Place → Width → Option ℕ
region_number m region place width =
    weights_of (λ j. bit_at m (operand_bit region place width j)) (bit_count width)

-- The unsigned number that is read at a place and width, if each bit of the operand exists.
unfoldable pub number_at_place : Areas → Place → Width → Option ℕ
number_at_place m place width =
    option_and_then (λ region. region_number m region place width) (region_read place)

-- Each bit of an operand exists in the region, which is None where the place lies in no region.
abbrev pub EachBitExists : Areas → Option Region → Place → Width → Type 0
EachBitExists m None place width = ⊥
EachBitExists m (Some region) place width =
    (j : ℕ) → j < bit_count width → IsSome (bit_at m (operand_bit region place width j))
