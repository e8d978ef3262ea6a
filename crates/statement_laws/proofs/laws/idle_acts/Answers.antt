use Rattle.statement_laws.proofs.FamilyLemmas.{idle_acts}
use Rattle.statement_laws.proofs.laws.idle_acts.Goals as goal

pub returns : goal.returns
returns c = idle_acts
