-- Memory as it begins.
use Rattle.std.specs.Prelude.{ℕ, List, replicate}
use Rattle.std.specs.FinMap as map
use Rattle.std.specs.Ordering.{nat_cmp}
use Rattle.plc_base.specs.AreaBytes.{process_image_size, upper_size}
use Rattle.plc_base.specs.Profiles.{bit_memory_size}
use Rattle.plc_base.specs.declared.Profile.{Profile}
use Rattle.plc_mem.specs.Areas.{Areas, PeripheralBytes}

-- A peripheral area, inputs or outputs, in which each bit is 0.
abbrev pub clear_peripheral : PeripheralBytes
clear_peripheral = record { low = replicate process_image_size 0; high = replicate upper_size 0 }

-- Memory with these data blocks in which every other byte is 0, bit memory of the profile's size.
abbrev pub zeroed_memory : Profile → map.FinMap nat_cmp (List ℕ) → Areas
zeroed_memory profile blocks = record {
  inputs = replicate process_image_size 0;
  outputs = replicate process_image_size 0;
  bit_memory = replicate (bit_memory_size profile) 0;
  peripheral_inputs = clear_peripheral;
  peripheral_outputs = clear_peripheral;
  data_blocks = blocks;
}

-- Memory as it begins: the data blocks are given by their numbers with their bytes, and every other
-- byte is 0.
unfoldable pub initial_memory : Profile → List (ℕ × List ℕ) → Areas
initial_memory profile blocks = zeroed_memory profile (map.from_entries blocks)
