use Rattle.sem_kept.proofs.accepted.Settled.{statements_settle}
use Rattle.sem_kept.proofs.laws.statements_settle.Goals as goal

pub returns : goal.returns
returns c = statements_settle
