use Rattle.std.proofs.Common.{◌≡◌, take}
use Rattle.frames.proofs.relay.Zones.copied.Given as goal

-- the values so far
abbrev pub invariant-loop-value : goal.invariant-loop-value
invariant-loop-value l = l.values.items ≡ take l.value-index l.value-items
