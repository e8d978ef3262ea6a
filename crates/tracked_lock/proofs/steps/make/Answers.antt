use Rattle.std.proofs.Common.{rules, ◌≡◌, ap, sym, subst, ◌∷◌, [], Some}
use Rattle.atomic_table.specs.Table.{opening}
use Rattle.tracked_lock.specs.Rule.{KeepsLockRule, starting_view}
use Rattle.tracked_lock.proofs.Keeps.{starts}
use Rattle.tracked_lock.proofs.steps.make.Goals as goal

pub new-requires : goal.new-requires
new-requires g c =
    let origin = g.V.Storied.origin in
    let key = c.args.key.now in
    let first = origin key.first.value in
    let n = key.passes in
    let items : c.push_reserved.new.self.items ≡ Some c.args.value ∷ [] = search rules in
    subst (λ l. KeepsLockRule origin g.V.Storied.story g.V.Storied.maker first n (opening (0 ∷ 0 ∷ n ∷ []) l (starting_view first n))) (sym items)
    (starts origin g.V.Storied.story g.V.Storied.maker first n c.args.value (ap origin (sym c.requires.first)) c.requires.empty)
