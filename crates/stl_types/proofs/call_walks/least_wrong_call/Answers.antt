use Rattle.std.proofs.Common.{List, ◌∙◌, ap, sym}
use Rattle.std.specs.List.{flat_map}
use Rattle.stl_ast.specs.declared.blocks.Block.{Block}
use Rattle.stl_ast.specs.declared.statements.Statement.{Statement}
use Rattle.plc_base.specs.Least.{least}
use Rattle.plc_base.proofs.LeastLemmas.{lesser_first}
use Rattle.stl_types.specs.Bodies.{first_context}
use Rattle.stl_types.specs.Context.{Context}
use Rattle.stl_types.specs.RuleGroups.{broken_statement, in_statements}
use Rattle.stl_types.proofs.CallLemmas.{contexts_end, contexts_turn, rules_joined}
use Rattle.stl_types.proofs.call_walks.least_wrong_call.Goals as goal

pub loop-block-init : goal.loop-block-init
loop-block-init c = lesser_first _

pub loop-block-preserved : goal.loop-block-preserved
loop-block-preserved c =
    let first : Context = first_context c.args.symbols.now c.args.layouts.now c.args.tree.now.blocks in
    let i = c.loop-block.block in
    let here : Context = record first { block = i } in
    contexts_turn broken_statement first c.as_slice-blocks.result.now i c.index-blocks-block.result c.loop-block.found c.in_ok-one.one c.lesser-found.result _
    c.loop-block-test.true c.index-blocks-block.is
    (c.in_ok-one.ensures ∙ ap (λ (x : Context). least (flat_map (broken_statement x) c.as_slice.result.now)) (c.at.ensures ∙ ap (λ (x : Context). record x { block = i }) c.new-first.ensures)
    ∙ ap (λ (body : List Statement). least (flat_map (broken_statement here) body)) c.as_slice.ensures
    ∙ ap (λ (b : Block). least (flat_map (broken_statement here) b.body)) (sym c.index-blocks-block.is))
    c.lesser-found.ensures c.loop-block.invariant

pub returns : goal.returns
returns c =
    let first : Context = first_context c.args.symbols.now c.args.layouts.now c.args.tree.now.blocks in
    contexts_end broken_statement first c.as_slice-blocks.result.now c.loop-block.block c.loop-block.found _ c.loop-block-test.false c.loop-block.invariant
    ∙ ap (λ (blocks : List Block). least (in_statements broken_statement first blocks)) c.as_slice-blocks.ensures ∙ rules_joined first c.args.tree.now.blocks
