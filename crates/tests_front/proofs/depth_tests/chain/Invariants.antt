use Rattle.std.proofs.Common.{◌≤◌}
use Rattle.stl_ast.specs.Outline.{IsOutline, deepest_behind}
use Rattle.tests_front.proofs.depth_tests.chain.Given as goal

abbrev pub invariant-loop-level : goal.invariant-loop-level
invariant-loop-level l = IsOutline 0 l.items.items × (l.level ≤ deepest_behind 0 l.items.items)
