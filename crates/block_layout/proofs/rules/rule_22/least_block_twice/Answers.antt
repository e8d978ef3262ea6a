use Rattle.std.proofs.Common.{Bool, [], ◌∷◌, refl, ◌∙◌, ap, arith}
use Rattle.plc_base.specs.Least.{broken_if, least}
use Rattle.plc_base.proofs.LeastLemmas.{lesser_first}
use Rattle.block_layout.specs.Rule22.{is_block_twice, rule_22}
use Rattle.block_layout.proofs.HeadLemmas.{heads_end, heads_turn}
use Rattle.block_layout.proofs.rules.rule_22.least_block_twice.Goals as goal

pub loop-place-init : goal.loop-place-init
loop-place-init c = ([], refl, lesser_first _)

pub loop-place-preserved : goal.loop-place-preserved
loop-place-preserved c =
    let held = c.loop-place.invariant in
    let block = c.index-blocks-place.result in
    let one = c.broken_if.ensures ∙ ap (λ (v : Bool). least (broken_if v block.line 22)) (c.is_block_twice-twice.ensures held.0 held.1) in (
      block ∷ held.0,
      omega (arith, held.1),
      heads_turn (is_block_twice c.args.types.now) 22 c.args.blocks.now _ block _ _ _ _ held.0 c.loop-place-test.true c.index-blocks-place.is one c.lesser-found.ensures held.2,
    )

pub returns : goal.returns
unfolding rule_22
returns c =
    let held = c.loop-place.invariant in
    heads_end (is_block_twice c.args.types.now) 22 c.args.blocks.now _ _ _ held.0 c.loop-place-test.false held.2
