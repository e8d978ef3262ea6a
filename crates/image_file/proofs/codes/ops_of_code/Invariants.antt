use Rattle.std.proofs.Common.{◌-◌, ◌≤◌, length}
use Rattle.image_file.specs.Walking.{HasReadOps}
use Rattle.image_file.proofs.codes.ops_of_code.Given as goal

abbrev pub invariant-loop-found : goal.invariant-loop-found
invariant-loop-found l = record {
  read : HasReadOps l.code l.ops.items l.at l.last l.ended l.count;
  before : l.last ≤ l.at;
  few : l.count ≤ 64;
}

abbrev pub decreases-loop-found : goal.decreases-loop-found
decreases-loop-found l = length l.code - l.at
