use Rattle.std.proofs.Common.{◌≡◌, drop}
use Rattle.plc_base.specs.Least.{least, lesser}
use Rattle.block_layout.specs.DeclarationFacts.{refusals_by_facts, twice_by}
use Rattle.block_layout.proofs.rules.rule_21.least_twice.Given as goal

abbrev pub invariant-loop-i : goal.invariant-loop-i
invariant-loop-i l =
    lesser l.found (least (refusals_by_facts twice_by (drop l.i l.all_facts) (drop l.i l.declarations)))
    ≡ least (refusals_by_facts twice_by l.all_facts l.declarations)
