use Rattle.std.proofs.Common.{◌∙◌, ap, sym, List}
use Rattle.stl_ast.specs.declared.blocks.Block.{Block}
use Rattle.stl_ast.specs.declared.blocks.Setting.{Setting}
use Rattle.plc_base.specs.Least.{least}
use Rattle.plc_base.proofs.LeastLemmas.{lesser_first}
use Rattle.block_layout.specs.Settings.{in_settings}
use Rattle.block_layout.proofs.PlaceLemmas.{place_turn, place_end}
use Rattle.stl_types.specs.Unknown.{sets_unknown}
use Rattle.stl_types.proofs.unknown.least_unknown_target.Goals as goal

pub loop-block-init : goal.loop-block-init
loop-block-init c = lesser_first _

pub loop-block-preserved : goal.loop-block-preserved
loop-block-preserved c =
    let breaks = sets_unknown c.args.layouts.now in
    place_turn (λ k b. in_settings (breaks k) 20 b.settings) c.args.blocks.now c.loop-block.block c.index-blocks-block.result c.loop-block.found c.in_ok-one.one c.lesser-found.result _
    c.loop-block-test.true c.index-blocks-block.is
    (c.in_ok-one.ensures ∙ ap (λ (settings : List Setting). least (in_settings (breaks c.loop-block.block) 20 settings)) c.as_slice.ensures
    ∙ ap (λ (b : Block). least (in_settings (breaks c.loop-block.block) 20 b.settings)) (sym c.index-blocks-block.is))
    c.lesser-found.ensures c.loop-block.invariant

pub returns : goal.returns
returns c =
    place_end (λ k b. in_settings (sets_unknown c.args.layouts.now k) 20 b.settings) c.args.blocks.now c.loop-block.block c.loop-block.found _ c.loop-block-test.false c.loop-block.invariant
