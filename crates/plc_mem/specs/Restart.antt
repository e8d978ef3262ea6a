-- What a warm restart leaves of memory.
use Rattle.std.specs.Prelude.{ℕ, List, ◌++◌, ◌-◌, take, replicate, length}
use Rattle.plc_base.specs.AreaBytes.{process_image_size}
use Rattle.plc_mem.specs.Areas.{Areas}

-- Bit memory after a warm restart: MB 0 to MB 15 are retained, and every other byte is 0.
abbrev pub retained_bit_memory : List ℕ → List ℕ
retained_bit_memory bytes = take 16 bytes ++ replicate (length bytes - 16) 0

-- Memory after a warm restart: the process images are 0, and so is bit memory but for MB 0 to MB
-- 15; data blocks and the peripheral inputs and outputs stay.
abbrev pub memory_after_restart : Areas → Areas
memory_after_restart m = record m {
  inputs = replicate process_image_size 0;
  outputs = replicate process_image_size 0;
  bit_memory = retained_bit_memory m.bit_memory;
}
