use Rattle.std.proofs.Common.{◌≡◌, drop}
use Rattle.std.specs.List.{fold}
use Rattle.block_layout.specs.InitialBytes.{bytes_with_write, setting_writes}
use Rattle.block_layout.proofs.filling.put_settings.Given as goal

abbrev pub invariant-loop-setting : goal.invariant-loop-setting
invariant-loop-setting l =
    fold bytes_with_write l.bytes (setting_writes l.layouts l.block (drop l.setting-index l.settings))
    ≡ fold bytes_with_write l.fn.bytes (setting_writes l.layouts l.block l.settings)
