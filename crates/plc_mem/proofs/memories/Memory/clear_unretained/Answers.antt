use Rattle.plc_mem.proofs.Lawful.{zero_count}
use Rattle.plc_mem.proofs.KeptMemory.{retained_is}
use Rattle.plc_mem.proofs.memories.Memory.clear_unretained.Goals as goal

pub invariant_of-self : goal.invariant_of-self
invariant_of-self c = record {
  inputs = zero_count 128;
  outputs = zero_count 128;
  bit_memory = rw c.clear_other_bytes_in.ensures (retained_is _ c.self.invariant.bit_memory);
  peripheral_inputs = c.self.invariant.peripheral_inputs;
  peripheral_outputs = c.self.invariant.peripheral_outputs;
  data_blocks = c.self.invariant.data_blocks;
}
