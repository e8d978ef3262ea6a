use Rattle.sem_kept.proofs.accepted.Initial.{initial_values_are_whole}
use Rattle.sem_kept.proofs.laws.initial_values_are_whole.Goals as goal

pub returns : goal.returns
returns c = initial_values_are_whole
