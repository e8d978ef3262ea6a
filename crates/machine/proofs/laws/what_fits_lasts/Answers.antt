use Rattle.machine.proofs.Instructions.{statement_lasts}
use Rattle.machine.proofs.Lasting.{call_leaves}
use Rattle.machine.proofs.laws.what_fits_lasts.Goals as goal

pub returns-clause-step : goal.returns-clause-step
returns-clause-step c = statement_lasts c.what_verifying_gives.ensures

pub returns-clause-answer : goal.returns-clause-answer
returns-clause-answer c = call_leaves c.what_verifying_gives.ensures
