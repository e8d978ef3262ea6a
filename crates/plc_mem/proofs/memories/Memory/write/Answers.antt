use Rattle.plc_mem.proofs.Lawful.{write_answers, write_bits}
use Rattle.plc_mem.proofs.memories.Memory.write.Goals as goal

pub returns-clause-bits : goal.returns-clause-bits
returns-clause-bits c =
    write_bits c.args.self.now c.store.new.self c.args.place c.args.width c.args.value c.store.result c.store.ensures.sizes c.requires c.store.ensures.cases

pub returns-clause-exists : goal.returns-clause-exists
returns-clause-exists c =
    write_answers c.args.self.now c.store.new.self c.args.place c.args.width c.args.value c.store.result c.store.ensures.sizes c.store.ensures.cases
