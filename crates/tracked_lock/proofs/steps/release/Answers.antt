use Rattle.std.proofs.Common.{rules}
use Rattle.tracked_lock.proofs.Keeps.{releases_at, with_slots}
use Rattle.tracked_lock.proofs.steps.release.Goals as goal

pub store-requires : goal.store-requires
store-requires g c =
    let m = c.args.seat.now.me in
    let r = c.requires.turn in
    let v = c.requires.value in
    (search rules, search rules, releases_at _ _ _ _ _ _ _ _ m.0 v.0 c.requires.steps.0.1 (with_slots m _ v.1) r.0 r.1 v.2 v.3)
