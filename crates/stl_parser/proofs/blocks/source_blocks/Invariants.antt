use Rattle.std.proofs.Common.{length}
use Rattle.std.specs.List.{flat_map}
use Rattle.stl_parser.specs.declared.places.ClausePlace.TheVariants as place
use Rattle.stl_parser.specs.Source.{ReadsKeptClauses}
use Rattle.stl_parser.specs.Spelling.{spelled_block}
use Rattle.stl_parser.proofs.blocks.source_blocks.Given as goal

abbrev pub invariant-loop-rest : goal.invariant-loop-rest
invariant-loop-rest l =
    ReadsKeptClauses l.source place.Outside l.tokens (flat_map spelled_block l.blocks.items) place.Outside l.rest

abbrev pub decreases-loop-rest : goal.decreases-loop-rest
decreases-loop-rest l = length l.rest
