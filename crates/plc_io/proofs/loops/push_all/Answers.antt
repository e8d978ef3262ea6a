use Rattle.plc_io.proofs.OutsideLemmas.{HasPushed-more}
use Rattle.plc_io.proofs.loops.push_all.Goals as goal

pub loop-done-preserved : goal.loop-done-preserved
loop-done-preserved g c = HasPushed-more _ _ _ _ _ _ c.loop-done.invariant c.in_ok-done.ensures
