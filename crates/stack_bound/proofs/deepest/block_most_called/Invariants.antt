use Rattle.std.proofs.Common.{◌≡◌, length, None}
use Rattle.stack_bound.specs.Deepest.{best_callee_from}
use Rattle.stack_bound.specs.Walking.{ops_after_offset}
use Rattle.stack_bound.proofs.deepest.block_most_called.Given as goal

-- from here on it is the same
abbrev pub invariant-loop-op : goal.invariant-loop-op
invariant-loop-op l =
    best_callee_from l.measure l.layer (record { block = None; most = 0 }) l.code.code
    ≡ best_callee_from l.measure l.layer l.best (ops_after_offset 0 l.code.code l.at)

abbrev pub decreases-loop-op : goal.decreases-loop-op
decreases-loop-op l = length (ops_after_offset 0 l.code.code l.at)
