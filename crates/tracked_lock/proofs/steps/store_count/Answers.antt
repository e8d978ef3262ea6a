use Rattle.std.proofs.Common.{rules}
use Rattle.tracked_lock.proofs.Keeps.{counts_at, with_slots}
use Rattle.tracked_lock.proofs.steps.store_count.Goals as goal

pub store-requires : goal.store-requires
store-requires g c =
    let m = c.args.seat.now.me in
    let r = c.requires.turn in
    let v = c.requires.value in
    (search rules, search rules, counts_at _ _ _ _ _ _ _ _ m.0 v.0 _ (with_slots m _ v.1) r.0 r.1 r.2 v.2 v.3)
