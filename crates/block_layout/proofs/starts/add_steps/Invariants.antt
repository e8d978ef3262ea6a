use Rattle.std.proofs.Common.{◌≡◌, ◌++◌}
use Rattle.block_layout.specs.InitialBytes.{in_steps}
use Rattle.block_layout.proofs.starts.add_steps.Given as goal

abbrev pub invariant-loop-k : goal.invariant-loop-k
invariant-loop-k l = l.places.items ≡ l.fn.places.items ++ in_steps l.step l.k l.start
