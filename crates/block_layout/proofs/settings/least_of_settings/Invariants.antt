use Rattle.std.proofs.Common.{◌≡◌, drop}
use Rattle.plc_base.specs.Least.{least, lesser}
use Rattle.block_layout.specs.SettingFaults.{rule_of_setting_fault, setting_breaks}
use Rattle.block_layout.specs.Settings.{on_settings}
use Rattle.block_layout.proofs.settings.least_of_settings.Given as goal

abbrev pub invariant-loop-i : goal.invariant-loop-i
invariant-loop-i l =
    lesser l.found (least (on_settings (setting_breaks l.layouts l.which) (rule_of_setting_fault l.which) l.i (drop l.i l.blocks)))
    ≡ least (on_settings (setting_breaks l.layouts l.which) (rule_of_setting_fault l.which) 0 l.blocks)
