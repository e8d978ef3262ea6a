-- Updating the process images at a cycle point.
use Rattle.std.specs.Prelude.{◌≡◌, ◌≢◌, ℕ, ◌<◌, ◌≤◌}
use Rattle.plc_base.specs.AreaBytes.{process_image_size}
use Rattle.plc_mem.specs.Areas.{Areas}
use Rattle.plc_mem.specs.BitPlace.{BitPlace, bit_place, Inputs, Outputs, PeripheralInputs, PeripheralOutputs}
use Rattle.plc_mem.specs.Bits.{bit_at}
use Rattle.plc_mem.specs.Places.{SamePlaces}

-- The memory after the process image of the outputs is written to peripheral outputs 0 to 127, and
-- peripheral inputs 0 to 127 are read to the process image of the inputs.
unfoldable pub memory_refreshed : Areas → Areas
memory_refreshed m = record m {
  inputs = m.peripheral_inputs.low;
  peripheral_outputs = record m.peripheral_outputs { low = m.outputs };
}

-- Between two memories the process images are updated: each bit of I becomes that of PI, each of PQ
-- 0 to 127 becomes that of Q, and every other bit is as before.
pub record IsRefreshed (old new : Areas) : Type 0 where
  -- each bit of the process image of the inputs is that of the peripheral inputs
  pub inputs :
      (byte bit : ℕ)
      → byte < process_image_size
      → bit_at new (bit_place Inputs byte bit) ≡ bit_at old (bit_place PeripheralInputs byte bit)
  -- each bit of peripheral outputs 0 to 127 is that of the process image of the outputs
  pub outputs :
      (byte bit : ℕ)
      → byte < process_image_size
      → bit_at new (bit_place PeripheralOutputs byte bit) ≡ bit_at old (bit_place Outputs byte bit)
  -- peripheral outputs 256 to 767 are as before
  pub upper_outputs :
      (byte bit : ℕ)
      → process_image_size ≤ byte
      → bit_at new (bit_place PeripheralOutputs byte bit)
      ≡ bit_at old (bit_place PeripheralOutputs byte bit)
  -- every bit outside the process image of the inputs and the peripheral outputs is as before
  pub others :
      (place : BitPlace)
      → place.region ≢ Inputs
      → place.region ≢ PeripheralOutputs
      → bit_at new place ≡ bit_at old place
  -- no bit place and no data block is added or removed
  pub places : SamePlaces old new
