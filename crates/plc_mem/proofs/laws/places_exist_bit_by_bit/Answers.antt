use Rattle.plc_mem.proofs.Lawful.{reads_where_each_bit_exists, writes_where_each_bit_exists}
use Rattle.plc_mem.proofs.laws.places_exist_bit_by_bit.Goals as goal

pub returns-clause-reads : goal.returns-clause-reads
returns-clause-reads c = reads_where_each_bit_exists c.args.m.now

pub returns-clause-writes : goal.returns-clause-writes
returns-clause-writes c = writes_where_each_bit_exists c.args.m.now c.law_of_areas.ensures
