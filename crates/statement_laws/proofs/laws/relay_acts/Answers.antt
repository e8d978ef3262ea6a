use Rattle.statement_laws.proofs.FamilyLemmas.{relay_acts}
use Rattle.statement_laws.proofs.laws.relay_acts.Goals as goal

pub returns : goal.returns
returns c = relay_acts
