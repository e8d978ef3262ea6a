use Rattle.statement_laws.proofs.FamilyLemmas.{number_instruction_acts}
use Rattle.statement_laws.proofs.laws.number_instruction_acts.Goals as goal

pub returns : goal.returns
returns c = number_instruction_acts
