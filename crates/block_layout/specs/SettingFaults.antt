-- What a setting can break by itself, with the rule: its value doesn't fit, or an index is outside
-- its array.
use Rattle.std.specs.Prelude.{ℕ, Bool, List}
use Rattle.stl_ast.specs.declared.blocks.Setting.{Setting}
use Rattle.block_layout.specs.Rule41.{setting_misfits}
use Rattle.block_layout.specs.Rule42.{setting_is_outside}
use Rattle.block_layout.specs.declared.blocks.BlockLayout.{BlockLayout}
use Rattle.block_layout.specs.declared.settings.SettingFault.{SettingFault}
use Rattle.block_layout.specs.declared.settings.SettingFault.TheVariants as fault

-- a setting of the block at a place breaks this one of the rules
abbrev pub setting_breaks : List BlockLayout → SettingFault → ℕ → Setting → Bool
setting_breaks l fault.UnfitValue = setting_misfits l
setting_breaks l fault.OutsideIndex = setting_is_outside l

-- the number of the rule that a setting breaks by itself
abbrev pub rule_of_setting_fault : SettingFault → ℕ
rule_of_setting_fault fault.UnfitValue = 41
rule_of_setting_fault fault.OutsideIndex = 42
