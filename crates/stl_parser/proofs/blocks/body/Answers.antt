use Rattle.stl_parser.proofs.BlockLemmas.{fewer, body_more, body_end, never_ends}
use Rattle.stl_parser.proofs.blocks.body.Goals as goal

pub returns-in-Ends-clause-read : goal.returns-in-Ends-clause-read
returns-in-Ends-clause-read c =
    rw c.from_vec.ensures (body_end _ _ _ _ _ c.in-Ends.line c.in-Ends.kind _ _ c.loop-statements.invariant
    (rw c.in-Ends.is at c.in_ok-clause.ensures.right))

pub loop-statements-smaller : goal.loop-statements-smaller
loop-statements-smaller c = fewer _ _ _ _ _ _ c.in_ok-clause.ensures.right

pub loop-statements-preserved : goal.loop-statements-preserved
loop-statements-preserved c =
    body_more _ _ _ _ _ _ _ _ _ c.loop-statements.invariant c.in_ok-clause.ensures.right
    (never_ends _ c.in_default.not-Ends) c.in_ok-keep_statement-in_default.ensures
