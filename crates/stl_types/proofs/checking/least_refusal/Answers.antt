use Rattle.std.proofs.Common.{List, ◌∙◌, ap}
use Rattle.stl_ast.specs.declared.blocks.Block.{Block}
use Rattle.plc_base.specs.Least.{least}
use Rattle.stl_types.specs.Bodies.{first_context}
use Rattle.stl_types.specs.RuleGroups.{rules_of_jumps, rules_of_zones}
use Rattle.stl_types.specs.Table.{statement_refusals}
use Rattle.stl_types.proofs.CallLemmas.{table_joined}
use Rattle.stl_types.proofs.checking.least_refusal.Goals as goal

pub returns : goal.returns
unfolding statement_refusals
returns c =
    table_joined (first_context c.args.symbols.now c.args.layouts.now c.args.tree.now.blocks) c.args.tree.now.blocks _ _ _ _ _ _ _ _ _ c.in_ok-unknown.ensures c.in_ok-operand.ensures
    (c.in_ok-jump.ensures ∙ ap (λ (blocks : List Block). least (rules_of_jumps blocks)) c.as_slice.ensures) c.in_ok-call.ensures
    (c.in_ok-zone.ensures ∙ ap (λ (blocks : List Block). least (rules_of_zones blocks)) c.as_slice-2.ensures) c.lesser.ensures c.lesser-2.ensures c.lesser-3.ensures c.lesser-4.ensures
