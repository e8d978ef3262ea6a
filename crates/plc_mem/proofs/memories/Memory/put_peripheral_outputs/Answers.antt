use Rattle.plc_mem.proofs.KeptMemory.{run_kept, peripheral_kept}
use Rattle.plc_mem.proofs.memories.Memory.put_peripheral_outputs.Goals as goal

pub invariant_of-self-2 : goal.invariant_of-self-2
invariant_of-self-2 c = record {
  inputs = c.self.invariant.inputs;
  outputs = run_kept 128 c.self.inside.outputs c.put-2.new.bytes c.args.at c.args.bit c.args.width c.args.value c.put-2.result c.self.invariant.outputs c.requires.fits c.put-2.ensures;
  bit_memory = c.self.invariant.bit_memory;
  peripheral_inputs = c.self.invariant.peripheral_inputs;
  peripheral_outputs = peripheral_kept c.self.inside.peripheral_outputs c.put.new.self c.args.at c.args.bit c.args.width c.args.value c.put.result c.self.invariant.peripheral_outputs c.requires.fits c.put.ensures.cases;
  data_blocks = c.self.invariant.data_blocks;
}
