use Rattle.std.proofs.Common.{ap, sym, subst, ◌∙◌, length, ◌<◌}
use Rattle.tracked_lock.proofs.Parts.{no_slot}
use Rattle.tracked_lock.proofs.locks.TrackedLock.take.Goals as goal

pub take_out-value-requires : goal.take_out-value-requires
take_out-value-requires g c =
    let s = c.self.invariant in
    let off = ap (λ v. v.out) c.p.view_is ∙ c.requires.free in
    let table = ap (λ v. v.lock.table) c.p.view_is ∙ ap (λ l. l.table) c.requires.lock ∙ sym (ap (λ l. l.table) c.self.view_is) in
    record { steps = (s.0, table); seat = (c.p.invariant.one_number, no_slot _ _ _ _ _ c.p.invariant off) }

pub read_count-p-inside-requires : goal.read_count-p-inside-requires
read_count-p-inside-requires g c =
    let s = c.self.invariant in
    let table = ap (λ v. v.lock.table) c.p.view_is ∙ ap (λ l. l.table) c.requires.lock ∙ sym (ap (λ l. l.table) c.self.view_is) in
    let e = c.take_out-value.ensures in
    record { steps = (s.0, e.seat.0 ∙ table); seat = subst (λ m. 0 < length m.0.made) (sym e.took.0) c.p.invariant.one_number }
