use Rattle.statement_laws.proofs.FamilyLemmas.{data_block_acts}
use Rattle.statement_laws.proofs.laws.data_block_acts.Goals as goal

pub returns : goal.returns
returns c = data_block_acts
