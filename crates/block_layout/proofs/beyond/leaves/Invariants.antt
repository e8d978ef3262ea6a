use Rattle.std.proofs.Common.{◌≡◌, drop, ◌≤◌}
use Rattle.block_layout.specs.Paths.{IsSoundAt, leaves_array}
use Rattle.block_layout.specs.Sizes.{largest_size}
use Rattle.block_layout.proofs.beyond.leaves.Given as goal

abbrev pub invariant-loop-next : goal.invariant-loop-next
invariant-loop-next l = record {
  rest : leaves_array l.layouts l.component (drop l.next-index l.path) ≡ leaves_array l.layouts l.fn.start l.path;
  near : l.component.offset ≤ largest_size;
  sound : IsSoundAt l.layouts l.component;
}
