use Rattle.std.proofs.Common.{◌≡◌, length}
use Rattle.stl_parser.specs.Source.{last_line}
use Rattle.stl_parser.proofs.sources.last_line.Given as goal

abbrev pub invariant-loop-rest : goal.invariant-loop-rest
invariant-loop-rest l = last_line 0 l.tokens ≡ last_line l.line l.rest

abbrev pub decreases-loop-rest : goal.decreases-loop-rest
decreases-loop-rest l = length l.rest
