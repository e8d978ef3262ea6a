use Rattle.block_layout.specs.NameLists.{EndParameters}
use Rattle.std.proofs.Common.{ℕ}
use Rattle.block_layout.proofs.layouts.parameters_end.Given as goal

abbrev pub invariant-loop-end : goal.invariant-loop-end
invariant-loop-end l = EndParameters l.cells l.end

abbrev pub decreases-loop-end : goal.decreases-loop-end
decreases-loop-end l = l.end
