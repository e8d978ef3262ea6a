use Rattle.std.proofs.Common.{◌≡◌, ◌∙◌, ap, sym, List}
use Rattle.stl_ast.specs.declared.blocks.Block.{Block}
use Rattle.stl_ast.specs.declared.blocks.Setting.{Setting}
use Rattle.plc_base.specs.Least.{least}
use Rattle.plc_base.proofs.LeastLemmas.{lesser_first}
use Rattle.block_layout.specs.SettingFaults.{rule_of_setting_fault, setting_breaks}
use Rattle.block_layout.specs.Settings.{in_settings}
use Rattle.block_layout.proofs.PlaceLemmas.{place_turn, place_end}
use Rattle.block_layout.proofs.settings.least_of_settings.Goals as goal

pub loop-i-init : goal.loop-i-init
loop-i-init c = lesser_first _

pub loop-i-preserved : goal.loop-i-preserved
loop-i-preserved c =
    let breaks = setting_breaks c.args.layouts.now c.args.which in
    place_turn (λ k b. in_settings (breaks k) (rule_of_setting_fault c.args.which) b.settings) c.args.blocks.now c.loop-i.i c.index-blocks-i.result c.loop-i.found c.in_ok-one.one c.lesser-found.result _
    c.loop-i-test.true c.index-blocks-i.is
    (c.in_ok-one.ensures ∙ ap (λ (settings : List Setting). least (in_settings (breaks c.loop-i.i) (rule_of_setting_fault c.args.which) settings)) c.as_slice-settings.ensures
    ∙ ap (λ (b : Block). least (in_settings (breaks c.loop-i.i) (rule_of_setting_fault c.args.which) b.settings)) (sym c.index-blocks-i.is))
    c.lesser-found.ensures c.loop-i.invariant

pub returns : goal.returns
returns c =
    place_end (λ k b. in_settings (setting_breaks c.args.layouts.now c.args.which k) (rule_of_setting_fault c.args.which) b.settings) c.args.blocks.now c.loop-i.i c.loop-i.found _ c.loop-i-test.false c.loop-i.invariant
