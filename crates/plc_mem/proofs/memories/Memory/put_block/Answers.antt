use Rattle.plc_mem.proofs.KeptMemory.{blocks_kept}
use Rattle.plc_mem.proofs.memories.Memory.put_block.Goals as goal

pub invariant_of-self : goal.invariant_of-self
invariant_of-self c = record {
  inputs = c.self.invariant.inputs;
  outputs = c.self.invariant.outputs;
  bit_memory = c.self.invariant.bit_memory;
  peripheral_inputs = c.self.invariant.peripheral_inputs;
  peripheral_outputs = c.self.invariant.peripheral_outputs;
  data_blocks = blocks_kept c.self.inside.data_blocks c.put.new.self c.args.number c.args.at c.args.bit c.args.width c.args.value c.put.result c.self.invariant.data_blocks c.requires.fits c.put.ensures;
}
