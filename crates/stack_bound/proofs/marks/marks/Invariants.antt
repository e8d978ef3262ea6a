use Rattle.std.proofs.Common.{◌≡◌, ◌-◌, ◌≤◌}
use Rattle.stack_bound.specs.Places.{marks_by}
use Rattle.stack_bound.proofs.marks.marks.Given as goal

abbrev pub invariant-loop-round : goal.invariant-loop-round
invariant-loop-round l = (l.marks.items ≡ marks_by l.callers l.list l.round) × (l.round ≤ l.rounds)

abbrev pub decreases-loop-round : goal.decreases-loop-round
decreases-loop-round l = l.rounds - l.round
