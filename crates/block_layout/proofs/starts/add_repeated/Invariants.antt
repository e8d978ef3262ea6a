use Rattle.std.proofs.Common.{◌≡◌, ◌++◌, replicate}
use Rattle.block_layout.proofs.starts.add_repeated.Given as goal

abbrev pub invariant-loop-i : goal.invariant-loop-i
invariant-loop-i l = l.values.items ≡ l.fn.values.items ++ replicate l._i l.value
