use Rattle.std.proofs.Common.{rules}
use Rattle.tracked_lock.proofs.Keeps.{joins}
use Rattle.tracked_lock.proofs.steps.join_other.Goals as goal

pub join_seat-requires : goal.join_seat-requires
join_seat-requires g c =
    let r = c.requires.views in
    (search rules, search rules, search rules, search rules, joins _ _ _ _ _ _ _ _ _ r.0 r.1 r.2 r.3 r.4)
