use Rattle.statement_laws.proofs.FamilyLemmas.{shift_acts}
use Rattle.statement_laws.proofs.laws.shift_acts.Goals as goal

pub returns : goal.returns
returns c = shift_acts
