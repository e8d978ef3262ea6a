use Rattle.sem_kept.proofs.accepted.Verified.{accepted_verifies}
use Rattle.sem_kept.proofs.laws.accepted_verifies.Goals as goal

pub returns : goal.returns
returns c = accepted_verifies
