use Rattle.std.proofs.Common.{rules}
use Rattle.plc_mem.proofs.Lawful.{read_answers}
use Rattle.plc_mem.proofs.KeptMemory.{read_fits}
use Rattle.plc_mem.proofs.memories.Memory.read.Goals as goal

pub returns-clause-exists : goal.returns-clause-exists
returns-clause-exists c = read_answers c.args.self.now c.args.place c.args.width c.ok_or.result (search rules)

pub returns-clause-fits : goal.returns-clause-fits
returns-clause-fits c = read_fits c.args.self.now c.args.place c.args.width c.ok_or.result (search rules)
