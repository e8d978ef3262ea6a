use Rattle.std.proofs.Common.{rules}
use Rattle.stl_parser.proofs.BlockLemmas.{fewer, declarations_more, declarations_end}
use Rattle.stl_parser.proofs.blocks.declarations.Goals as goal

pub returns-then-not-is_inside-clause-read : goal.returns-then-not-is_inside-clause-read
returns-then-not-is_inside-clause-read c =
    rw c.from_vec.ensures (declarations_end _ _ _ _ _ _ _ _ _ c.loop-items.invariant c.in_ok-clause.ensures.right (search rules))

pub loop-items-smaller : goal.loop-items-smaller
loop-items-smaller c = fewer _ _ _ _ _ _ c.in_ok-clause.ensures.right

pub loop-items-preserved : goal.loop-items-preserved
loop-items-preserved c =
    declarations_more _ _ _ _ _ _ _ _ _ _ c.loop-items.invariant c.in_ok-clause.ensures.right (search rules) (search rules)
