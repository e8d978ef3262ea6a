use Rattle.plc_mem.proofs.Lawful.{places_stay as law}
use Rattle.plc_mem.proofs.laws.places_stay.Goals as goal

pub returns : goal.returns
returns c = law c.args.m.now c.law_of_areas.ensures
