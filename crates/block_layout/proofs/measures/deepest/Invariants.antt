use Rattle.std.proofs.Common.{◌≡◌, ◌≤◌, drop, max}
use Rattle.block_layout.specs.DeclarationFacts.{greatest_reach}
use Rattle.block_layout.proofs.measures.deepest.Given as goal

abbrev pub invariant-loop-facts : goal.invariant-loop-facts
invariant-loop-facts l = record {
  most : max l.deepest (greatest_reach (drop l.facts-index l.all_facts)) ≡ greatest_reach l.all_facts;
  floor : 1 ≤ l.deepest;
}
