use Rattle.std.proofs.Common.{rules, ◌≡◌, ap, sym, subst, ◌∙◌, ◌∷◌, []}
use Rattle.tracked_lock.specs.Passes.{IsOneStep}
use Rattle.tracked_lock.proofs.Parts.{is_given, one_slot, added_of, added_as}
use Rattle.tracked_lock.proofs.locks.TrackedLock.put.Goals as goal

pub give_back-requires : goal.give_back-requires
give_back-requires g c =
    let s = c.self.invariant in
    let is = c.p.invariant in
    let on = ap (λ v. v.out) c.p.view_is ∙ c.requires.taken.0 in
    let table = ap (λ v. v.lock.table) c.p.view_is ∙ ap (λ l. l.table) c.requires.lock ∙ sym (ap (λ l. l.table) c.self.view_is) in
    let first = ap (λ v. v.lock.origin) c.p.view_is ∙ ap (λ l. l.origin) c.requires.lock in
    let same : c.into_value-value.result ≡ c.args.held.value = search rules in
    let list = subst (λ v. IsOneStep g.V.Storied.maker c.args.p.now.number c.args.p.now.seen (g.V.Storied.story v)) (sym same) c.requires.list in
    let more = added_of g.V.Storied.maker _ _ _ list in
    record {
      steps = (s.0, table);
      turn = ((is.one_number, on, is.other), one_slot _ _ _ _ _ is on);
      origin = ap (λ v. g.V.Storied.origin v ∷ []) same ∙ c.requires.origin ∙ sym first;
      entries = added_as g.V.Storied.maker _ _ _ _ _ (sym (ap (λ v. v.number) c.p.view_is) ∙ is.number_is) (sym (ap (λ v. v.seen) c.p.view_is)) more;
      len = c.story_len-len.ensures;
    }

pub invariant_of-p : goal.invariant_of-p
invariant_of-p g c =
    let same : c.into_value-value.result ≡ c.args.held.value = search rules in
    let more = added_as g.V.Storied.maker _ _ _ _ _ (sym (ap (λ v. v.number) c.p.view_is)) (sym (ap (λ v. v.seen) c.p.view_is)) (added_of g.V.Storied.maker _ _ _ (subst (λ v. IsOneStep g.V.Storied.maker c.args.p.now.number c.args.p.now.seen (g.V.Storied.story v)) (sym same) c.requires.list)) in
    let now = is_given g.V.Storied.story g.V.Storied.maker _ _ _ _ _ _ c.into_value-value.result c.p.invariant more c.story_len-len.ensures c.give_back.ensures.back in
    now

pub returns-clause-made : goal.returns-clause-made
returns-clause-made g c =
    let same : c.into_value-value.result ≡ c.args.held.value = search rules in
    let more = added_as g.V.Storied.maker _ _ _ _ _ (sym (ap (λ v. v.number) c.p.view_is)) (sym (ap (λ v. v.seen) c.p.view_is)) (added_of g.V.Storied.maker _ _ _ (subst (λ v. IsOneStep g.V.Storied.maker c.args.p.now.number c.args.p.now.seen (g.V.Storied.story v)) (sym same) c.requires.list)) in
    let now = is_given g.V.Storied.story g.V.Storied.maker _ _ _ _ _ _ c.into_value-value.result c.p.invariant more c.story_len-len.ensures c.give_back.ensures.back in
    now.made
