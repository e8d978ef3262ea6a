use Rattle.std.proofs.Common.{◌≡◌, ◌<◌, ◌^◌, drop, max}
use Rattle.block_layout.specs.Lengths.{farthest_operand_end}
use Rattle.block_layout.proofs.lengths.farthest.Given as goal

abbrev pub invariant-loop-statement : goal.invariant-loop-statement
invariant-loop-statement l = record {
  most : max l.end (farthest_operand_end (drop l.statement-index l.body)) ≡ farthest_operand_end l.body;
  near : l.end < 2 ^ 17;
}
