use Rattle.std.proofs.Common.{◌≡◌, length}
use Rattle.ob_sched.proofs.ChangeLemmas.{AreEmpty}
use Rattle.ob_sched.proofs.bins.Bins.new.Given as goal

-- the bins so far are empty
abbrev pub invariant-loop : goal.invariant-loop
invariant-loop l = (length l.bins.items ≡ l.counter) × AreEmpty l.bins.items
