use Rattle.std.proofs.Common.{Bool, [], ◌∷◌, refl, ◌∙◌, ap, arith}
use Rattle.plc_base.specs.Kinds.{is_data_block}
use Rattle.plc_base.specs.Least.{broken_if, least}
use Rattle.plc_base.proofs.LeastLemmas.{lesser_first}
use Rattle.block_layout.specs.Rule53.{is_one_too_many, rule_53}
use Rattle.block_layout.proofs.HeadLemmas.{at_most_one, heads_end, heads_turn, one_block_more}
use Rattle.block_layout.proofs.rules.rule_53.least_data_block_too_many.Goals as goal

pub loop-block-init : goal.loop-block-init
loop-block-init c = ([], refl, omega arith, lesser_first _)

pub loop-block-preserved : goal.loop-block-preserved
loop-block-preserved c =
    let held = c.loop-block.invariant in
    let block = c.block-item.result in
    let one = c.broken_if.ensures ∙ ap (λ (v : Bool). least (broken_if v block.line 53)) (c.is_one_too_many-is_too_many.ensures held.0 held.1) in
    let more = at_most_one (is_data_block block.kind) c.counted_data-data_blocks.result c.counted_data-data_blocks.ensures in (
      block ∷ held.0,
      one_block_more block held.0 _ _ held.1 c.counted_data-data_blocks.ensures,
      omega (arith, more, held.2),
      heads_turn is_one_too_many 53 c.args.blocks.now _ block _ _ _ _ held.0 c.loop-block-test.true c.block-item.is one c.lesser-found.ensures held.3,
    )

pub returns : goal.returns
unfolding rule_53
returns c =
    let held = c.loop-block.invariant in
    heads_end is_one_too_many 53 c.args.blocks.now _ _ _ held.0 c.loop-block-test.false held.3
