use Rattle.std.proofs.Common.{length}
use Rattle.stl_parser.proofs.BlockLemmas.{DeclarationsRead}
use Rattle.stl_parser.proofs.blocks.declarations.Given as goal

abbrev pub invariant-loop-items : goal.invariant-loop-items
invariant-loop-items l = DeclarationsRead l.source l.fn.from l.tokens l.items.items l.at l.rest

abbrev pub decreases-loop-items : goal.decreases-loop-items
decreases-loop-items l = length l.rest
