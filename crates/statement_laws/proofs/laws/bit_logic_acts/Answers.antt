use Rattle.statement_laws.proofs.FamilyLemmas.{bit_logic_acts}
use Rattle.statement_laws.proofs.laws.bit_logic_acts.Goals as goal

pub returns : goal.returns
returns c = bit_logic_acts
