use Rattle.plc_mem.proofs.KeptMemory.{clear_is}
use Rattle.plc_mem.proofs.memories.Memory.clear_outputs.Goals as goal

pub invariant_of-self : goal.invariant_of-self
invariant_of-self c = record {
  inputs = c.self.invariant.inputs;
  outputs = c.self.invariant.outputs;
  bit_memory = c.self.invariant.bit_memory;
  peripheral_inputs = c.self.invariant.peripheral_inputs;
  peripheral_outputs = rw c.clear-self-inside.ensures clear_is;
  data_blocks = c.self.invariant.data_blocks;
}
