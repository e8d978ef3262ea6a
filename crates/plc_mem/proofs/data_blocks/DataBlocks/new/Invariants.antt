use Rattle.std.proofs.Common.{◌≡◌, take}
use Rattle.std.specs.FinMap as map
use Rattle.plc_mem.specs.Blocks.{data_block_map, bytes_by_number}
use Rattle.plc_mem.specs.Places.{AreBlocks}
use Rattle.plc_mem.proofs.data_blocks.DataBlocks.new.Given as goal

abbrev pub invariant-loop-number : goal.invariant-loop-number
invariant-loop-number l = record {
  entries : data_block_map l.by_number.entries ≡ map.from_entries (bytes_by_number (take l.number-index l.blocks));
  bytes : AreBlocks (data_block_map l.by_number.entries);
}
