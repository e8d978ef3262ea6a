use Rattle.std.proofs.Common.{◌≡◌, drop, ◌≤◌, ◌++◌}
use Rattle.block_layout.specs.Members.{members_of, component_names}
use Rattle.block_layout.specs.Sizes.{largest_size}
use Rattle.block_layout.proofs.members.members.Given as goal

abbrev pub invariant-loop-i : goal.invariant-loop-i
invariant-loop-i l = record {
  names : l.name_list.names ++ component_names l.level (drop l.i l.cells) ≡ component_names l.level l.cells;
  members : l.name_list.members.items ++ members_of l.level l.at l.i (drop l.i l.cells) ≡ members_of l.level 0 0 l.cells;
  near : l.at ≤ largest_size;
}
