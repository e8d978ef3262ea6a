use Rattle.std.proofs.Common.{List, ◌∙◌, ap}
use Rattle.stl_ast.specs.declared.blocks.Block.{Block}
use Rattle.plc_base.specs.Least.{least}
use Rattle.block_layout.specs.Operands.{in_body}
use Rattle.block_layout.specs.Settings.{on_settings}
use Rattle.block_layout.proofs.HeadLemmas.{two_lists}
use Rattle.stl_types.specs.Bodies.{first_context, in_contexts}
use Rattle.stl_types.specs.Context.{Context}
use Rattle.stl_types.specs.Unknown.{operand_20, rule_20, sets_unknown}
use Rattle.stl_types.proofs.unknown.least_unknown.Goals as goal

pub returns : goal.returns
unfolding rule_20
returns c =
    let first : Context = first_context c.args.symbols.now c.args.layouts.now c.args.tree.now.blocks in
    let set = c.in_ok-set.ensures ∙ ap (λ (blocks : List Block). least (on_settings (sets_unknown c.args.layouts.now) 20 0 blocks)) c.as_slice-blocks.ensures in
    let used =
    c.in_ok-used.ensures ∙ ap (λ (x : Context). least (in_contexts (λ c body. in_body (operand_20 c) body) (record x { block = 0 }) c.as_slice-blocks.result.now)) c.new-first.ensures
    ∙ ap (λ (blocks : List Block). least (in_contexts (λ c body. in_body (operand_20 c) body) first blocks)) c.as_slice-blocks.ensures in
    two_lists (on_settings (sets_unknown c.args.layouts.now) 20 0 c.args.tree.now.blocks) (in_contexts (λ c body. in_body (operand_20 c) body) first c.args.tree.now.blocks) _ _ _
    set used c.lesser.ensures
