use Rattle.plc_mem.proofs.Lawful.{refreshes_bits, clears_bits, sets_input_bits}
use Rattle.plc_mem.proofs.laws.calls_change_these_bits.Goals as goal

pub returns-clause-refreshes : goal.returns-clause-refreshes
returns-clause-refreshes c = refreshes_bits c.args.m.now c.law_of_areas.ensures

pub returns-clause-clears : goal.returns-clause-clears
returns-clause-clears c = clears_bits c.args.m.now c.law_of_areas.ensures

pub returns-clause-inputs : goal.returns-clause-inputs
returns-clause-inputs c = sets_input_bits c.args.m.now c.law_of_areas.ensures
