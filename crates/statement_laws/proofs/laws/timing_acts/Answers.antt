use Rattle.statement_laws.proofs.FamilyLemmas.{timing_acts}
use Rattle.statement_laws.proofs.laws.timing_acts.Goals as goal

pub returns : goal.returns
returns c = timing_acts
