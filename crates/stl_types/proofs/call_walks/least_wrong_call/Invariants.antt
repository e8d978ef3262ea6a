use Rattle.std.proofs.Common.{◌≡◌, drop}
use Rattle.plc_base.specs.Least.{least, lesser}
use Rattle.stl_types.specs.Bodies.{first_context}
use Rattle.stl_types.specs.RuleGroups.{broken_statement, in_statements}
use Rattle.stl_types.proofs.call_walks.least_wrong_call.Given as goal

abbrev pub invariant-loop-block : goal.invariant-loop-block
invariant-loop-block l =
    lesser l.found (least (in_statements broken_statement (record (first_context l.symbols l.layouts l.tree.blocks) { block = l.block }) (drop l.block l.blocks)))
    ≡ least (in_statements broken_statement (first_context l.symbols l.layouts l.tree.blocks) l.blocks)
