use Rattle.std.proofs.Common.{rules}
use Rattle.tracked_lock.proofs.Keeps.{reads}
use Rattle.tracked_lock.proofs.steps.read_count.Goals as goal

pub load-requires : goal.load-requires
load-requires g c = (search rules, search rules, reads _ _ _ _ _ _ _ _ c.requires.seat)
