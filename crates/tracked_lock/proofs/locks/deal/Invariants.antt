use Rattle.std.proofs.Common.{◌-◌, ◌≡◌, ◌≤◌, [], ◌∷◌}
use Rattle.tracked_lock.specs.Passes.{fresh_passes}
use Rattle.tracked_lock.specs.Rule.{starting_view}
use Rattle.tracked_lock.specs.Views.{fresh_to}
use Rattle.tracked_lock.proofs.locks.deal.Given as goal

abbrev pub invariant-loop-left : goal.invariant-loop-left
invariant-loop-left g l =
    let origin = g.V.Storied.origin l.fn.key.first.value in let n = l.fn.n in
    (1 ≤ l.left) × (l.left ≤ n) × (l.seat.table_id ≡ l.fn.steps.table_id)
    × (l.seat.me ≡ (record (starting_view origin n) { made = fresh_to l.left }, []))
    × (l.passes.items ≡ fresh_passes (record { table = l.fn.steps.table_id; origin = origin ∷ []; passes = n }) l.left (n - l.left))

abbrev pub decreases-loop-left : goal.decreases-loop-left
decreases-loop-left g l = l.left - 1
