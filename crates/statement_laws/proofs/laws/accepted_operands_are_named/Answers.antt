use Rattle.statement_laws.proofs.AcceptedLemmas.{accepted_operands_are_named}
use Rattle.statement_laws.proofs.laws.accepted_operands_are_named.Goals as goal

pub returns : goal.returns
returns c = accepted_operands_are_named
