use Rattle.std.proofs.Common.{◌≡◌, drop, ◌++◌, map}
use Rattle.block_layout.specs.Cells.{preset_of}
use Rattle.block_layout.proofs.making.presets.Given as goal

abbrev pub invariant-loop-i : goal.invariant-loop-i
invariant-loop-i l = l.presets.items ++ map preset_of (drop l.i-index l.init) ≡ map preset_of l.init
