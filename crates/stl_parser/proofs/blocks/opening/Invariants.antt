use Rattle.std.proofs.Common.{[], length}
use Rattle.stl_parser.specs.declared.places.ClausePlace.TheVariants as place
use Rattle.stl_parser.specs.Source.{ReadsKeptClauses}
use Rattle.stl_parser.proofs.blocks.opening.Given as goal

abbrev pub invariant-loop-clause : goal.invariant-loop-clause
invariant-loop-clause l = ReadsKeptClauses l.source (place.Head l.kind) l.tokens [] (place.Head l.kind) l.rest

abbrev pub decreases-loop-clause : goal.decreases-loop-clause
decreases-loop-clause l = length l.rest
