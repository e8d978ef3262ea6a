use Rattle.plc_mem.proofs.Lawful.{numbers_are_read_back as law}
use Rattle.plc_mem.proofs.laws.numbers_are_read_back.Goals as goal

pub returns : goal.returns
returns c = law c.args.m.now c.law_of_areas.ensures
