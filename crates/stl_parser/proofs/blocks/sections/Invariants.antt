use Rattle.std.proofs.Common.{length}
use Rattle.stl_parser.proofs.BlockLemmas.{SectionsRead}
use Rattle.stl_parser.proofs.blocks.sections.Given as goal

abbrev pub invariant-loop-clause : goal.invariant-loop-clause
invariant-loop-clause l = SectionsRead l.source l.kind l.tokens l.parts.items l.clause l.rest

abbrev pub decreases-loop-clause : goal.decreases-loop-clause
decreases-loop-clause l = length l.rest
