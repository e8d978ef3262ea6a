use Rattle.std.proofs.Common.{◌∙◌, ap, sym, List}
use Rattle.stl_ast.specs.declared.blocks.Block.{Block}
use Rattle.stl_ast.specs.declared.statements.Statement.{Statement}
use Rattle.plc_base.specs.Least.{least}
use Rattle.plc_base.proofs.LeastLemmas.{lesser_first}
use Rattle.stl_types.specs.Context.{Context}
use Rattle.stl_types.specs.Operands.{operands_24}
use Rattle.stl_types.proofs.ContextLemmas.{contexts_turn, contexts_end}
use Rattle.stl_types.proofs.resolving.wrong_in_blocks.Goals as goal

pub loop-block-init : goal.loop-block-init
loop-block-init c = lesser_first _

pub loop-block-preserved : goal.loop-block-preserved
loop-block-preserved c =
    contexts_turn operands_24 c.args.context.now c.args.blocks.now c.loop-block.block c.index-blocks-block.result c.loop-block.found c.in_ok-one.one c.lesser-found.result _
    c.loop-block-test.true c.index-blocks-block.is
    (c.in_ok-one.ensures
    ∙ ap (λ (x : Context). least (operands_24 x c.as_slice.result.now)) c.at-here.ensures
    ∙ ap (λ (body : List Statement). least (operands_24 (record c.args.context.now { block = c.loop-block.block }) body)) c.as_slice.ensures
    ∙ ap (λ (b : Block). least (operands_24 (record c.args.context.now { block = c.loop-block.block }) b.body)) (sym c.index-blocks-block.is))
    c.lesser-found.ensures c.loop-block.invariant

pub returns : goal.returns
returns c = contexts_end operands_24 c.args.context.now c.args.blocks.now c.loop-block.block c.loop-block.found _ c.loop-block-test.false c.loop-block.invariant
