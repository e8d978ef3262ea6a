use Rattle.std.proofs.Common.{◌≡◌}
use Rattle.tests_lock.specs.Workers.{IsFree}
use Rattle.tests_lock.proofs.workers.add_notes.Given as goal

abbrev pub invariant-loop-value : goal.invariant-loop-value
invariant-loop-value g l = IsFree l.lock l.pass × (l.who ≡ l.pass.number)
