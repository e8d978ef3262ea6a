use Rattle.std.proofs.Common.{arith, ◌++◌, [], ◌∷◌, ◌∙◌, ap}
use Rattle.std.proofs.lemmas.Grind.{common_steps}
use Rattle.block_layout.specs.Facts.{outline_of}
use Rattle.block_layout.specs.declared.outlines.Outline.{Outline}
use Rattle.block_layout.proofs.CycleLemmas.{map_next}
use Rattle.block_layout.proofs.LengthLemmas.{outline_is}
use Rattle.plc_base.proofs.LeastLemmas.{least_next, least_done, lesser_first}
use Rattle.block_layout.specs.Around.{refusals_in_block}
use Rattle.block_layout.specs.Rule21.{refusals_21, rule_21}
use Rattle.block_layout.specs.Rule56.{refusals_56, rule_56}
use Rattle.block_layout.proofs.outlines.outline_all.Goals as goal

pub loop-block-init : goal.loop-block-init
loop-block-init c = record { list = grind (arith, common_steps); twice = lesser_first _; deep = lesser_first _ }

pub loop-block-preserved : goal.loop-block-preserved
loop-block-preserved c = record {
  list = map_next (outline_of c.args.types.now) c.args.blocks.now c.loop-block.block-index c.block-item.result c.loop-block.list.items c.push.new.self.items _ c.loop-block-test.true c.block-item.is
      (
      c.in_ok-push.ensures.items
      ∙ ap (λ (o : Outline). c.loop-block.list.items ++ o ∷ [])
      (outline_is c.args.types.now c.block-item.result _ _ (c.in_ok-new.ensures ∙ c.in_ok-made.ensures.components) (c.in_ok-new-2.ensures ∙ c.in_ok-made.ensures.temps))
      )
      c.loop-block.invariant.list;
  twice = least_next (refusals_in_block refusals_21) c.args.blocks.now c.loop-block.block-index c.block-item.result _ _ _ c.loop-block-test.true c.block-item.is
      c.in_ok-made.ensures.twice c.lesser-twice.ensures c.loop-block.invariant.twice;
  deep = least_next (refusals_in_block (refusals_56 c.args.types.now)) c.args.blocks.now c.loop-block.block-index c.block-item.result _ _ _ c.loop-block-test.true c.block-item.is
      c.in_ok-made.ensures.deep c.lesser-deep.ensures c.loop-block.invariant.deep;
}

pub returns-clause-twice : goal.returns-clause-twice
unfolding rule_21
returns-clause-twice c = least_done (refusals_in_block refusals_21) c.args.blocks.now _ _ c.loop-block-test.false c.loop-block.invariant.twice

pub returns-clause-deep : goal.returns-clause-deep
unfolding rule_56
returns-clause-deep c = least_done (refusals_in_block (refusals_56 c.args.types.now)) c.args.blocks.now _ _ c.loop-block-test.false c.loop-block.invariant.deep
