use Rattle.plc_mem.proofs.OneMemory.{writing_gives_the_one_memory as law}
use Rattle.plc_mem.proofs.laws.writing_gives_the_one_memory.Goals as goal

pub returns : goal.returns
returns c = law c.args.m.now c.args.other.now c.law_of_areas.ensures c.law_of_areas-2.ensures
