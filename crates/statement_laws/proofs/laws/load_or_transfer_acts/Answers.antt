use Rattle.statement_laws.proofs.FamilyLemmas.{load_or_transfer_acts}
use Rattle.statement_laws.proofs.laws.load_or_transfer_acts.Goals as goal

pub returns : goal.returns
returns c = load_or_transfer_acts
