use Rattle.std.proofs.Common.{take}
use Rattle.ob_sched.proofs.ChangeLemmas.{AreEmpty}
use Rattle.ob_sched.proofs.bins.Bins.clear.Given as goal

-- the bins below the index are empty
abbrev pub invariant-loop-bin : goal.invariant-loop-bin
invariant-loop-bin l = AreEmpty (take l.bin-index l.bin-items)
