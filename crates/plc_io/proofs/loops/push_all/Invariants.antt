use Rattle.std.proofs.Common.{◌-◌, length}
use Rattle.plc_io.proofs.OutsideLemmas.{HasPushed}
use Rattle.plc_io.proofs.loops.push_all.Given as goal

abbrev pub invariant-loop-done : goal.invariant-loop-done
invariant-loop-done g l = HasPushed (g.K.Sink.shown l.fn.out) (g.K.Sink.shown l.out) l.bytes l.done

abbrev pub decreases-loop-done : goal.decreases-loop-done
decreases-loop-done g l = length l.bytes - l.done
