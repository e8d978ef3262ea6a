use Rattle.std.proofs.Common.{◌≡◌, ◌+◌, length}
use Rattle.stl_parser.specs.Statements.{value_length}
use Rattle.stl_parser.proofs.parameters.value_length.Given as goal

abbrev pub invariant-loop-rest : goal.invariant-loop-rest
invariant-loop-rest l =
    (value_length l.source l.tokens ≡ l.count + value_length l.source l.rest) × (l.count + length l.rest ≡ length l.tokens)

abbrev pub decreases-loop-rest : goal.decreases-loop-rest
decreases-loop-rest l = length l.rest
