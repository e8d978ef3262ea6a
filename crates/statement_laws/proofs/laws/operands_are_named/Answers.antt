use Rattle.statement_laws.proofs.CoverLemmas.{operands_are_named}
use Rattle.statement_laws.proofs.laws.operands_are_named.Goals as goal

pub returns : goal.returns
returns c = operands_are_named
