-- Peripheral inputs and outputs, byte by byte.
use Rattle.std.specs.Prelude.{◌≡◌, ◌≢◌, ℕ, ◌<◌, Option, Some, false}
use Rattle.std.specs.Option.{option_map}
use Rattle.plc_base.specs.declared.Width.TheVariants.{Byte}
use Rattle.plc_mem.specs.Areas.{Areas}
use Rattle.plc_mem.specs.BitPlace.{BitPlace, bit_place, PeripheralInputs, PeripheralOutputs}
use Rattle.plc_mem.specs.Bits.{region_byte, bit_at, is_bit_one}
use Rattle.plc_mem.specs.Places.{SameBlocks}
use Rattle.plc_mem.specs.Writing.{number_written_in}
use Rattle.plc_mem.specs.Fresh.{clear_peripheral}

-- The memory with a value in one byte of the peripheral inputs (PI), if there is a byte with this
-- number.
unfoldable pub with_input : Areas → ℕ → ℕ → Option Areas
with_input m byte value = number_written_in m PeripheralInputs byte 0 Byte value

-- The byte of the peripheral outputs (PQ) with this number, if there is one.
unfoldable pub output_of : Areas → ℕ → Option ℕ
output_of m byte = region_byte m PeripheralOutputs byte

-- The memory with each peripheral output 0, as in STOP.
unfoldable pub outputs_cleared : Areas → Areas
outputs_cleared m = record m { peripheral_outputs = clear_peripheral }

-- Between two memories the peripheral outputs (PQ) are cleared: each of their bits is 0, and every
-- other bit is as before.
pub record AreOutputsCleared (old new : Areas) : Type 0 where
  -- each bit of the peripheral outputs is 0
  pub outputs :
      (byte bit : ℕ)
      → bit_at new (bit_place PeripheralOutputs byte bit)
      ≡ option_map (λ _. false) (bit_at old (bit_place PeripheralOutputs byte bit))
  -- every other bit is as before
  pub others :
      (place : BitPlace) → place.region ≢ PeripheralOutputs → bit_at new place ≡ bit_at old place
  -- the same data blocks are loaded
  pub blocks : SameBlocks old new

-- Between two memories one byte of the peripheral inputs (PI) is set to a value, and every other
-- bit is as before.
pub record IsInputSet (old new : Areas) (byte value : ℕ) : Type 0 where
  -- each bit of the byte is the value's
  pub input :
      (bit : ℕ) → bit < 8
      → bit_at new (bit_place PeripheralInputs byte bit) ≡ Some (is_bit_one value bit)
  -- every other bit is as before
  pub others :
      (place : BitPlace)
      → place ≢ bit_place PeripheralInputs byte place.bit
      → bit_at new place ≡ bit_at old place
  -- the same data blocks are loaded
  pub blocks : SameBlocks old new
