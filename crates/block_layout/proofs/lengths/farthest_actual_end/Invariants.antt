use Rattle.std.proofs.Common.{◌≡◌, ◌<◌, ◌^◌, drop, max}
use Rattle.block_layout.specs.Lengths.{farthest_actual_end}
use Rattle.block_layout.proofs.lengths.farthest_actual_end.Given as goal

abbrev pub invariant-loop-actual : goal.invariant-loop-actual
invariant-loop-actual l = record {
  most : max l.end (farthest_actual_end (drop l.actual-index l.actuals)) ≡ farthest_actual_end l.actuals;
  near : l.end < 2 ^ 17;
}
