-- Where a bit lies.
use Rattle.std.specs.Prelude.{ℕ}

-- A memory area in which bits lie. Peripheral inputs and peripheral outputs are two of them, and
-- each data block is one.
pub data Region : Type 0 where
  -- the process image of the inputs (I)
  Inputs : Region
  -- the process image of the outputs (Q)
  Outputs : Region
  -- bit memory (M)
  BitMemory : Region
  -- the peripheral inputs (PI)
  PeripheralInputs : Region
  -- the peripheral outputs (PQ)
  PeripheralOutputs : Region
  -- the data block (DB) with this number
  DataBlock : (number : ℕ) → Region

-- Where a bit of memory lies: the region, the byte and the bit of the byte.
pub record BitPlace : Type 0 where
  -- the memory area in which the bit lies
  pub region : Region
  -- the number of the byte in the region, from 0
  pub byte : ℕ
  -- the number of the bit in the byte, 0 (the least significant) to 7
  pub bit : ℕ

-- The bit place given by region, byte number and bit number.
abbrev pub bit_place : Region → (byte bit : ℕ) → BitPlace
bit_place region byte bit = record { region = region; byte = byte; bit = bit }
