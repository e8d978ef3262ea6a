use Rattle.std.proofs.Common.{map, length}
use Rattle.stl_parser.specs.declared.clauses.Clause.TheVariants as spelled
use Rattle.stl_parser.specs.declared.places.ClausePlace.TheVariants as place
use Rattle.stl_parser.specs.Source.{ReadsKeptClauses}
use Rattle.stl_parser.proofs.blocks.body.Given as goal

abbrev pub invariant-loop-statements : goal.invariant-loop-statements
invariant-loop-statements l =
    ReadsKeptClauses l.source (place.Body l.kind) l.tokens (map spelled.Runs l.statements.items) (place.Body l.kind) l.rest

abbrev pub decreases-loop-statements : goal.decreases-loop-statements
decreases-loop-statements l = length l.rest
