use Rattle.std.proofs.Common.{◌≡◌, drop, ◌≤◌}
use Rattle.block_layout.specs.Paths.{IsSoundAt, path_end_behind}
use Rattle.block_layout.specs.Sizes.{largest_size}
use Rattle.block_layout.proofs.path_ends.walk_behind.Given as goal

abbrev pub invariant-loop-next : goal.invariant-loop-next
invariant-loop-next l = record {
  rest : path_end_behind l.layouts l.component (drop l.next-index l.path) ≡ path_end_behind l.layouts l.fn.start l.path;
  near : l.component.offset ≤ largest_size;
  sound : IsSoundAt l.layouts l.component;
}
