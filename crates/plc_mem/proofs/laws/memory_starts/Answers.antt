use Rattle.plc_mem.proofs.Lawful.{memory_starts as law}
use Rattle.plc_mem.proofs.laws.memory_starts.Goals as goal

pub returns : goal.returns
returns c = law
