use Rattle.sem_kept.proofs.compiled.Following.{programs_follow}
use Rattle.sem_kept.proofs.laws.programs_follow.Goals as goal

-- src/laws.rt:20:1
pub returns : goal.returns
returns c = programs_follow c.one_number_each.ensures.operations c.one_number_each.ensures.jumps
