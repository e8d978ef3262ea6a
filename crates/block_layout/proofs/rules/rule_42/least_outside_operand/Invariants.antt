use Rattle.std.proofs.Common.{◌≡◌, drop}
use Rattle.plc_base.specs.Least.{least, lesser}
use Rattle.block_layout.specs.Rule42.{bodies_42}
use Rattle.block_layout.proofs.rules.rule_42.least_outside_operand.Given as goal

abbrev pub invariant-loop-i : goal.invariant-loop-i
invariant-loop-i l =
    lesser l.found (least (bodies_42 l.types l.layouts l.i (drop l.i l.blocks)))
    ≡ least (bodies_42 l.types l.layouts 0 l.blocks)
