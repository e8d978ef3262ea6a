use Rattle.statement_laws.proofs.FamilyLemmas.{comparison_acts}
use Rattle.statement_laws.proofs.laws.comparison_acts.Goals as goal

pub returns : goal.returns
returns c = comparison_acts
