use Rattle.plc_mem.proofs.OneMemory.{bits_determine_memory as law}
use Rattle.plc_mem.proofs.laws.bits_determine_memory.Goals as goal

pub returns : goal.returns
returns c = law c.args.m.now c.args.n.now c.law_of_areas.ensures c.law_of_areas-2.ensures
