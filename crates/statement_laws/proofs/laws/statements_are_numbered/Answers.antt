use Rattle.statement_laws.proofs.NumberLemmas.{statements_are_numbered}
use Rattle.statement_laws.proofs.laws.statements_are_numbered.Goals as goal

pub returns : goal.returns
returns c = statements_are_numbered
