use Rattle.std.proofs.Common.{◌≡◌, ap, sym, subst, refl, ◌∙◌, ◌∷◌, [], arith, length, ◌<◌, ◌≤◌, ℕ}
use Rattle.tracked_lock.specs.Views.{times, one_if_number_of_pass, AreEntriesByMaker, HoldsForEach}
use Rattle.tracked_lock.specs.Passes.{missing_number_count}
use mathlib.Core.List.{IsPrefix}
use mathlib.Core.Option.{some-injective}
use Rattle.std.specs.Option.{IsSome}
use Rattle.tracked_lock.proofs.Counting.{missing_is}
use Rattle.tracked_lock.proofs.Keeps.{closes, some_same}
use Rattle.tracked_lock.proofs.locks.TrackedLock.close.Goals as goal

pub returns-then-p-self-clause-err : goal.returns-then-p-self-clause-err
returns-then-p-self-clause-err g c =
    let s = c.self.invariant in
    let is = c.p.invariant in
    let n = s.1 ∙ ap (λ l. l.passes) c.self.view_is in
    let m = ap (λ v. v.lock.passes) c.p.view_is ∙ ap (λ l. l.passes) c.requires.lock in
    let made = ap (λ v. v.made) c.p.view_is in
    let all = missing_is c.args.self.passes c.args.p.made (subst (λ xs. (k : ℕ) → times k xs ≤ one_if_number_of_pass c.args.self.passes k) made (subst (λ p. (k : ℕ) → times k c.p.inside.seat.me.0.made ≤ one_if_number_of_pass p k) m is.once)) in
    ((omega (arith, c.if-p-self.true), omega (arith, all, n, is.numbers_is, ap length made, c.if-p-self.true)), refl, refl)

pub unwrap-requires : goal.unwrap-requires
unwrap-requires g c =
    let s = c.self.invariant in
    let is = c.p.invariant in
    let n = s.1 ∙ ap (λ l. l.passes) c.self.view_is in
    let m = ap (λ v. v.lock.passes) c.p.view_is ∙ ap (λ l. l.passes) c.requires.lock in
    let all = missing_is c.args.self.passes c.p.inside.seat.me.0.made (subst (λ p. (k : ℕ) → times k c.p.inside.seat.me.0.made ≤ one_if_number_of_pass p k) m is.once) in
    let off = ap (λ v. v.out) c.p.view_is ∙ c.requires.free in
    let t = closes _ _ _ _ _ _ _ _ _ c.close_with-closed.ensures.values.2 (omega (arith, s.2, n, all, is.numbers_is, c.if-p-self.false)) off in
    let value = some-injective _ _ (sym t.1 ∙ c.take-value.ensures.value) in
    subst IsSome value refl

pub returns-clause-ok : goal.returns-clause-ok
returns-clause-ok g c =
    let s = c.self.invariant in
    let is = c.p.invariant in
    let n = s.1 ∙ ap (λ l. l.passes) c.self.view_is in
    let m = ap (λ v. v.lock.passes) c.p.view_is ∙ ap (λ l. l.passes) c.requires.lock in
    let all = missing_is c.args.self.passes c.p.inside.seat.me.0.made (subst (λ p. (k : ℕ) → times k c.p.inside.seat.me.0.made ≤ one_if_number_of_pass p k) m is.once) in
    let off = ap (λ v. v.out) c.p.view_is ∙ c.requires.free in
    let t = closes _ _ _ _ _ _ _ _ _ c.close_with-closed.ensures.values.2 (omega (arith, s.2, n, all, is.numbers_is, c.if-p-self.false)) off in
    let value = some-injective _ _ (sym t.1 ∙ c.take-value.ensures.value) in
    let x = some_same _ _ (value ∙ c.unwrap.ensures) in
    let made = ap (λ v. v.made) c.p.view_is in
    let story = g.V.Storied.story in record {
      numbers = subst (λ ms. missing_number_count c.args.self.passes ms ≡ 0) made (omega (arith, n, all, is.numbers_is, c.if-p-self.false));
      origin = ap (λ o. o ∷ []) (sym (ap g.V.Storied.origin x) ∙ t.2) ∙ ap (λ l. l.origin) c.self.view_is;
      seen = subst (λ y. IsPrefix c.args.p.seen (story y)) x (subst (λ l. IsPrefix l (story t.0)) (ap (λ v. v.seen) c.p.view_is) t.3);
      made = subst (λ y. AreEntriesByMaker g.V.Storied.maker (story y) c.args.p.made) x (subst (λ ms. AreEntriesByMaker g.V.Storied.maker (story t.0) ms) made t.4);
      no_others = subst (λ y. HoldsForEach (λ e. 0 < times (g.V.Storied.maker e) c.args.p.made) (story y)) x (subst (λ ms. HoldsForEach (λ e. 0 < times (g.V.Storied.maker e) ms) (story t.0)) made t.5);
    }
