use Rattle.std.proofs.Common.{arith}
use Rattle.stl_ast.proofs.Outlines.{IsOutline-push, deepest_behind-push}
use Rattle.tests_front.proofs.depth_tests.chain.Goals as goal

pub loop-level-preserved : goal.loop-level-preserved
loop-level-preserved c =
    rw c.in_ok-push.ensures.items (
      IsOutline-push _ _ _ c.loop-level.invariant.0 c.loop-level.invariant.1,
      rw (deepest_behind-push 0 c.loop-level.items.items _) (omega arith),
    )
