use Rattle.std.proofs.Common.{◌≡◌, ◌-◌, ◌++◌}
use Rattle.std.specs.List.{range_with_len}
use Rattle.stl_list.proofs.chains.first_labels.Given as goal

abbrev pub invariant-loop-number : goal.invariant-loop-number
invariant-loop-number l = l.labels.items ++ range_with_len l.number (l.count - l.number) ≡ range_with_len 0 l.count
