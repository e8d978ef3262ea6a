use Rattle.std.proofs.Common.{rules, ◌≡◌, ◌∙◌, ap, sym, arith, length, [], ◌∷◌, false}
use Rattle.tracked_lock.specs.Passes.{LockView, fresh_pass}
use Rattle.tracked_lock.specs.Views.{view}
use Rattle.tracked_lock.proofs.Numbers.{length_fresh}
use Rattle.tracked_lock.proofs.Fresh.{cut_rest, cut_last, passes_more}
use Rattle.tracked_lock.proofs.locks.deal.Goals as goal

pub split_last-last-requires-clause-seat : goal.split_last-last-requires-clause-seat
split_last-last-requires-clause-seat g c =
    let i = c.loop-left.invariant in
    let many : length c.loop-left.seat.me.0.made ≡ c.loop-left.left = ap (λ m. length m.0.made) i.3 ∙ length_fresh _ c.loop-left.left in
    (omega (arith, many, c.loop-left-test.true), ap (λ m. m.0.turn) i.3)

pub pass_at_start-requires-clause-seat : goal.pass_at_start-requires-clause-seat
pass_at_start-requires-clause-seat g c =
    let i = c.loop-left.invariant in
    let cut = cut_last _ _ _ c.loop-left.left i.0 (ap (λ m. m.0) i.3) in
    let origin = g.V.Storied.origin c.args.key.now.first.value in
    c.split_last-last.ensures.last.1 ∙ ap (λ v. (v, [])) cut ∙ ap (λ n. (view (origin ∷ []) n false [] [] (record { number = c.loop-left.left; entries = [] } ∷ []), [])) (sym c.requires.key.1)

pub loop-left-preserved : goal.loop-left-preserved
loop-left-preserved g c =
    let i = c.loop-left.invariant in
    let left = c.loop-left.left in
    let cut = cut_rest _ _ _ left i.0 (ap (λ m. m.0) i.3) in
    let slots = ap (λ m. m.1) i.3 in
    let lock : LockView g.row.V-Origin.Denot = record { table = c.args.steps.now.table_id; origin = g.V.Storied.origin c.args.key.now.first.value ∷ []; passes = c.args.n } in
    let same : c.pass_at_start.result ≡ fresh_pass lock left = search rules in
    let put : c.insert.new.self.items ≡ c.pass_at_start.result ∷ c.loop-left.passes.items = search rules in (
      omega (arith, c.loop-left-test.true),
      omega (arith, i.1),
      search rules,
      c.split_last-last.ensures.rest ∙ (λ j. (cut j, slots j)),
      put ∙ ap (λ p. p ∷ c.loop-left.passes.items) same ∙ ap (λ r. fresh_pass lock left ∷ r) i.4 ∙ passes_more lock c.args.n left i.0 i.1,
    )
