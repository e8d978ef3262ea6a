use Rattle.std.proofs.Common.{arith, ℕ, subst, IsOk, IsTrue, ◌↔◌}
use Rattle.plc_base.specs.declared.Width.TheVariants.{Byte}
use Rattle.plc_base.specs.AreaBytes.{is_peripheral_byte}
use Rattle.plc_mem.proofs.Lawful.{input_answers}
use Rattle.plc_mem.proofs.KeptMemory.{peripheral_kept, has_parts}
use Rattle.plc_mem.proofs.memories.Memory.set_input.Goals as goal

pub returns-clause-exists : goal.returns-clause-exists
returns-clause-exists c =
    subst
    (λ (n : ℕ). IsOk c.put.result ↔ IsTrue (is_peripheral_byte n))
    c.from-at.ensures
    (input_answers c.self.inside.peripheral_inputs c.put.new.self c.from-at.result c.into.result c.put.result (has_parts c.self.inside.peripheral_inputs c.self.invariant.peripheral_inputs) c.put.ensures.cases)

pub invariant_of-self : goal.invariant_of-self
invariant_of-self c = record {
  inputs = c.self.invariant.inputs;
  outputs = c.self.invariant.outputs;
  bit_memory = c.self.invariant.bit_memory;
  peripheral_inputs = peripheral_kept c.self.inside.peripheral_inputs c.put.new.self c.from-at.result 0 Byte c.into.result c.put.result c.self.invariant.peripheral_inputs (omega (arith, c.into.ensures, c.ranges.value.fits)) c.put.ensures.cases;
  peripheral_outputs = c.self.invariant.peripheral_outputs;
  data_blocks = c.self.invariant.data_blocks;
}
