use Rattle.std.proofs.Common.{◌≡◌, drop, ◌++◌}
use Rattle.std.specs.List.{flat_map}
use Rattle.block_layout.specs.InitialBytes.{in_steps}
use Rattle.block_layout.proofs.starts.spread.Given as goal

abbrev pub invariant-loop-start : goal.invariant-loop-start
invariant-loop-start l =
    l.places.items ++ flat_map (in_steps l.step l.count) (drop l.start-index l.starts) ≡ flat_map (in_steps l.step l.count) l.starts
