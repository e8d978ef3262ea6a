use Rattle.statement_laws.proofs.AcceptedLemmas.{accepted_statements_act}
use Rattle.statement_laws.proofs.laws.accepted_statements_act.Goals as goal

pub returns : goal.returns
returns c = accepted_statements_act
