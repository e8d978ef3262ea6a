use Rattle.std.proofs.Common.{◌≡◌, ◌≤◌, length}
use Rattle.stl_parser.specs.Values.{value_from}
use Rattle.stl_parser.proofs.values.value.Given as goal

abbrev pub invariant-loop-rest : goal.invariant-loop-rest
invariant-loop-rest l =
    (value_from l.greatest l.base 0 l.digits ≡ value_from l.greatest l.base l.value l.rest) × (l.value ≤ l.greatest)

abbrev pub decreases-loop-rest : goal.decreases-loop-rest
decreases-loop-rest l = length l.rest
