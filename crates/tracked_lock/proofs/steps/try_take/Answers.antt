use Rattle.std.proofs.Common.{rules}
use Rattle.tracked_lock.proofs.Keeps.{takes}
use Rattle.tracked_lock.proofs.steps.try_take.Goals as goal

pub compare_exchange-requires : goal.compare_exchange-requires
compare_exchange-requires g c = (search rules, search rules, takes _ _ _ _ _ _ _ _ c.requires.seat)
