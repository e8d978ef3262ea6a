use Rattle.std.proofs.Common.{ap, sym, ◌∙◌, arith, ◌++◌, length-append}
use Rattle.tracked_lock.proofs.Parts.{no_slot}
use Rattle.tracked_lock.proofs.Counting.{missing_is}
use Rattle.tracked_lock.proofs.locks.TrackedLock.join.Goals as goal

pub join_seats-requires : goal.join_seats-requires
join_seats-requires g c =
    let s = c.self.invariant in
    let is = c.p.invariant in
    let also = c.q.invariant in
    let off = ap (λ v. v.out) c.q.view_is ∙ c.requires.free.1 in
    let here = sym (ap (λ l. l.table) c.self.view_is) in
    let table = ap (λ v. v.lock.table) c.p.view_is ∙ ap (λ l. l.table) c.requires.lock.0 ∙ here in
    let table' = ap (λ v. v.lock.table) c.q.view_is ∙ ap (λ l. l.table) c.requires.lock.1 ∙ here in
    record {
      steps = (s.0, table);
      other = (table', no_slot _ _ _ _ _ also off);
      views = (off, is.other, is.one_number, is.made, also.made);
    }

pub overflow_add-p : goal.overflow_add-p
overflow_add-p g c =
    let s = c.self.invariant in
    let is = c.p.invariant in
    let also = c.q.invariant in
    let same = ap (λ v. v.lock.passes) c.p.view_is ∙ ap (λ l. l.passes) c.requires.lock.0 ∙ sym (s.1 ∙ ap (λ l. l.passes) c.self.view_is) in
    let all = missing_is _ (c.p.inside.seat.me.0.made ++ c.q.inside.seat.me.0.made) c.join_seats.ensures.reads.4 in
    omega (arith, same, all, length-append c.p.inside.seat.me.0.made c.q.inside.seat.me.0.made, is.numbers_is, also.numbers_is, s.2)
