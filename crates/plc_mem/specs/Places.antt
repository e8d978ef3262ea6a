-- Which places exist, and which memories there can be.
use Rattle.std.specs.Prelude.{◌≡◌, ℕ, ◌<◌, ◌≤◌, List, length, Some, is_some, slice_index}
use Rattle.std.specs.FinMap as map
use Rattle.std.specs.Ordering.{nat_cmp}
use Rattle.plc_base.specs.AreaBytes.{process_image_size, upper_size}
use Rattle.plc_base.specs.Profiles.{bit_memory_size}
use Rattle.plc_base.specs.declared.Profile.{Profile}
use Rattle.plc_mem.specs.Areas.{Areas, PeripheralBytes}
use Rattle.plc_mem.specs.BitPlace.{BitPlace}
use Rattle.plc_mem.specs.Bits.{bit_at}

-- In two memories the same data blocks are loaded, whatever their bytes are.
abbrev pub SameBlocks : (old new : Areas) → Type 0
SameBlocks old new =
    (number : ℕ)
    → is_some (map.get new.data_blocks number)
    ≡ is_some (map.get old.data_blocks number)

-- Two memories have the same bit places and the same loaded data blocks, whatever the bits are.
pub record SamePlaces (old new : Areas) : Type 0 where
  -- the same bit places exist
  pub bits : (place : BitPlace) → is_some (bit_at new place) ≡ is_some (bit_at old place)
  -- the same data blocks are loaded
  pub blocks : SameBlocks old new

-- Each number of a list is the value of a byte, 0 to 255.
abbrev pub AreByteValues : List ℕ → Type 0
AreByteValues bytes = (i : ℕ) → slice_index bytes i < 256

-- From an index on, each byte of a list is 0.
abbrev pub IsClearFrom : ℕ → List ℕ → Type 0
IsClearFrom start bytes = (i : ℕ) → start ≤ i → slice_index bytes i ≡ 0

-- A list has this count of numbers, and each is the value of a byte.
pub record IsRun (count : ℕ) (bytes : List ℕ) : Type 0 where
  -- the length of the list is the count
  pub count_is : length bytes ≡ count
  -- each number is the value of a byte, 0 to 255
  pub bytes_are : AreByteValues bytes

-- A list can be the bytes of bit memory (M): it has the size of one of the profiles and is made of
-- bytes.
pub record IsBitMemory (bytes : List ℕ) : Type 0 where
  -- the profile whose bit memory has this size
  pub profile : Profile
  -- the length of the list is the size of the profile's bit memory
  pub count_is : length bytes ≡ bit_memory_size profile
  -- each number is the value of a byte, 0 to 255
  pub bytes_are : AreByteValues bytes

-- A peripheral area can be: its two parts have their sizes, 128 and 512, and are made of bytes.
pub record IsPeripheral (p : PeripheralBytes) : Type 0 where
  -- the lower part is bytes 0 to 127
  pub low : IsRun process_image_size p.low
  -- the upper part is bytes 256 to 767
  pub high : IsRun upper_size p.high

-- Each loaded data block is made of bytes.
abbrev pub AreBlocks : map.FinMap nat_cmp (List ℕ) → Type 0
AreBlocks blocks =
    (number : ℕ) (bytes : List ℕ) → map.get blocks number ≡ Some bytes → AreByteValues bytes

-- The two parts of a peripheral area have their sizes, whatever their numbers are.
pub record HasParts (p : PeripheralBytes) : Type 0 where
  -- the lower part is as long as bytes 0 to 127
  pub low : length p.low ≡ process_image_size
  -- the upper part is as long as bytes 256 to 767
  pub high : length p.high ≡ upper_size

-- A memory can be: each area has its size, and each is made of bytes.
pub record IsMemory (m : Areas) : Type 0 where
  -- the process image of the inputs (I) is 128 bytes
  pub inputs : IsRun process_image_size m.inputs
  -- the process image of the outputs (Q) is 128 bytes
  pub outputs : IsRun process_image_size m.outputs
  -- bit memory (M) is as many bytes as in one of the profiles
  pub bit_memory : IsBitMemory m.bit_memory
  -- the peripheral inputs (PI) are bytes 0 to 127 and 256 to 767
  pub peripheral_inputs : IsPeripheral m.peripheral_inputs
  -- the peripheral outputs (PQ) are bytes 0 to 127 and 256 to 767
  pub peripheral_outputs : IsPeripheral m.peripheral_outputs
  -- each loaded data block (DB) is made of bytes
  pub data_blocks : AreBlocks m.data_blocks

-- The process image of the outputs and the lower part of the peripheral outputs have the same size,
-- 128 bytes.
pub record HasImage (m : Areas) : Type 0 where
  -- the process image of the outputs has 128 bytes
  pub image : length m.outputs ≡ process_image_size
  -- the lower part of the peripheral outputs has 128 bytes
  pub outputs_low : length m.peripheral_outputs.low ≡ process_image_size
