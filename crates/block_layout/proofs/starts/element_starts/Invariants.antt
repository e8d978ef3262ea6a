use Rattle.std.proofs.Common.{◌≡◌, drop}
use Rattle.block_layout.specs.InitialBytes.{element_starts}
use Rattle.block_layout.proofs.starts.element_starts.Given as goal

abbrev pub invariant-loop-depth : goal.invariant-loop-depth
invariant-loop-depth l =
    element_starts (drop l.depth l.bounds) l.element l.places.items ≡ element_starts l.bounds l.element l.starts
