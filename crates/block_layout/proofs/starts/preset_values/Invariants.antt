use Rattle.std.proofs.Common.{◌≡◌, drop, ◌++◌}
use Rattle.block_layout.specs.InitialBytes.{preset_values}
use Rattle.block_layout.proofs.starts.preset_values.Given as goal

abbrev pub invariant-loop-preset : goal.invariant-loop-preset
invariant-loop-preset l =
    l.values.items ++ preset_values (drop l.preset-index l.presets) ≡ preset_values l.presets
