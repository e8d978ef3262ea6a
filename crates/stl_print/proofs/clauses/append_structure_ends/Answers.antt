use Rattle.stl_print.proofs.LineLemmas.{ends_more}
use Rattle.stl_print.proofs.clauses.append_structure_ends.Goals as goal

pub loop-preserved : goal.loop-preserved
loop-preserved c = ends_more _ _ (c.loop.line, c.loop.out.items) _ _ c.loop-test.true c.in_ok-line.ensures c.loop.invariant
