use Rattle.std.proofs.Common.{◌≡◌, length}
use Rattle.stack_bound.specs.Checking.{counts_ops}
use Rattle.stack_bound.specs.Walking.{ops_after_offset}
use Rattle.stack_bound.proofs.checking.counts_ops.Given as goal

-- the ops from here on decide
abbrev pub invariant-loop-op : goal.invariant-loop-op
invariant-loop-op l =
    counts_ops l.l.program l.c l.code.local_len l.b l.code.code
    ≡ counts_ops l.l.program l.c l.code.local_len l.b (ops_after_offset 0 l.code.code l.at)

abbrev pub decreases-loop-op : goal.decreases-loop-op
decreases-loop-op l = length (ops_after_offset 0 l.code.code l.at)
