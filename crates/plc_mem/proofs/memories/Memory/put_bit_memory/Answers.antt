use Rattle.plc_mem.proofs.KeptMemory.{bits_kept}
use Rattle.plc_mem.proofs.memories.Memory.put_bit_memory.Goals as goal

pub invariant_of-self : goal.invariant_of-self
invariant_of-self c = record {
  inputs = c.self.invariant.inputs;
  outputs = c.self.invariant.outputs;
  bit_memory = bits_kept c.self.inside.bit_memory.items c.put_in.new.bytes.items c.args.at c.args.bit c.args.width c.args.value c.put_in.result c.self.invariant.bit_memory c.requires.fits c.put_in.ensures;
  peripheral_inputs = c.self.invariant.peripheral_inputs;
  peripheral_outputs = c.self.invariant.peripheral_outputs;
  data_blocks = c.self.invariant.data_blocks;
}
