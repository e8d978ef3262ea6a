use Rattle.std.proofs.Common.{◌≡◌, drop}
use Rattle.plc_base.specs.Least.{least, lesser}
use Rattle.block_layout.specs.Settings.{on_settings}
use Rattle.stl_types.specs.Unknown.{sets_unknown}
use Rattle.stl_types.proofs.unknown.least_unknown_target.Given as goal

abbrev pub invariant-loop-block : goal.invariant-loop-block
invariant-loop-block l =
    lesser l.found (least (on_settings (sets_unknown l.layouts) 20 l.block (drop l.block l.blocks))) ≡ least (on_settings (sets_unknown l.layouts) 20 0 l.blocks)
