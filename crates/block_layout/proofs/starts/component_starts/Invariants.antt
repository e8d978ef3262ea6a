use Rattle.std.proofs.Common.{◌≡◌, drop, ◌++◌}
use Rattle.block_layout.specs.InitialBytes.{component_starts}
use Rattle.block_layout.proofs.starts.component_starts.Given as goal

abbrev pub invariant-loop-start : goal.invariant-loop-start
invariant-loop-start l = l.places.items ++ component_starts l.at l.cell (drop l.start-index l.starts) ≡ component_starts l.at l.cell l.starts
