use Rattle.sem_kept.proofs.RunLemmas.{programs_run}
use Rattle.sem_kept.proofs.laws.programs_run.Goals as goal

pub returns : goal.returns
returns c =
    programs_run c.accepted_verifies.ensures c.verified_is_compilable.ensures
    c.programs_are_kept.ensures
