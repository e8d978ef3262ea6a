use Rattle.std.proofs.Common.{◌≡◌, ◌∙◌, ap, sym, List}
use Rattle.stl_ast.specs.declared.blocks.Block.{Block}
use Rattle.stl_ast.specs.declared.statements.Statement.{Statement}
use Rattle.plc_base.specs.Least.{least}
use Rattle.plc_base.proofs.LeastLemmas.{lesser_first}
use Rattle.block_layout.specs.Operands.{in_body}
use Rattle.block_layout.specs.Rule42.{operand_42}
use Rattle.block_layout.proofs.PlaceLemmas.{place_turn, place_end}
use Rattle.block_layout.proofs.rules.rule_42.least_outside_operand.Goals as goal

pub loop-i-init : goal.loop-i-init
loop-i-init c = lesser_first _

pub loop-i-preserved : goal.loop-i-preserved
loop-i-preserved c =
    let broken = operand_42 c.args.types.now c.args.layouts.now in
    place_turn (λ k b. in_body (broken k) b.body) c.args.blocks.now c.loop-i.i c.index-blocks-i.result c.loop-i.found c.in_ok-one.one c.lesser-found.result _
    c.loop-i-test.true c.index-blocks-i.is
    (c.in_ok-one.ensures ∙ ap (λ (body : List Statement). least (in_body (broken c.loop-i.i) body)) c.as_slice-body.ensures
    ∙ ap (λ (b : Block). least (in_body (broken c.loop-i.i) b.body)) (sym c.index-blocks-i.is))
    c.lesser-found.ensures c.loop-i.invariant

pub returns : goal.returns
returns c =
    place_end (λ k b. in_body (operand_42 c.args.types.now c.args.layouts.now k) b.body) c.args.blocks.now c.loop-i.i c.loop-i.found _ c.loop-i-test.false c.loop-i.invariant
