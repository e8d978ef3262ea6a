use Rattle.std.proofs.Common.{◌≡◌, take}
use Rattle.flat_code.specs.Faults.{ends_blank}
use Rattle.flat_code.proofs.names.ends_blank.Given as goal

abbrev pub invariant-loop-x : goal.invariant-loop-x
invariant-loop-x l = l.blank ≡ ends_blank (take l.x-index l.name)
