use Rattle.plc_mem.proofs.Lawful.{zero_count, zero_memory}
use Rattle.plc_mem.proofs.KeptMemory.{clear_is}
use Rattle.plc_mem.proofs.memories.Memory.with_data_blocks.Goals as goal

pub invariant_of-result : goal.invariant_of-result
invariant_of-result c = record {
  inputs = zero_count 128;
  outputs = zero_count 128;
  bit_memory = rw c.requires.bits (zero_memory c.args.profile);
  peripheral_inputs = rw c.clear.ensures clear_is;
  peripheral_outputs = rw c.clear-2.ensures clear_is;
  data_blocks = c.requires.blocks;
}
