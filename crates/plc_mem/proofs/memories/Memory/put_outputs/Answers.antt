use Rattle.plc_mem.proofs.KeptMemory.{run_kept}
use Rattle.plc_mem.proofs.memories.Memory.put_outputs.Goals as goal

pub invariant_of-self : goal.invariant_of-self
invariant_of-self c = record {
  inputs = c.self.invariant.inputs;
  outputs = run_kept 128 c.self.inside.outputs c.put.new.bytes c.args.at c.args.bit c.args.width c.args.value c.put.result c.self.invariant.outputs c.requires.fits c.put.ensures;
  bit_memory = c.self.invariant.bit_memory;
  peripheral_inputs = c.self.invariant.peripheral_inputs;
  peripheral_outputs = c.self.invariant.peripheral_outputs;
  data_blocks = c.self.invariant.data_blocks;
}
