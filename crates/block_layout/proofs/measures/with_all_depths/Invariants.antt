use Rattle.std.proofs.Common.{◌≡◌}
use Rattle.block_layout.specs.Measures.{depths_after, with_depths}
use Rattle.block_layout.proofs.measures.with_all_depths.Given as goal

abbrev pub invariant-loop-round : goal.invariant-loop-round
invariant-loop-round l = l.types ≡ with_depths l.fn.types (depths_after l.round l.fn.types l.blocks)
