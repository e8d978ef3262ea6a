use Rattle.statement_laws.proofs.VariableCover.{variables_are_named}
use Rattle.statement_laws.proofs.laws.variables_are_named.Goals as goal

pub returns : goal.returns
returns c = variables_are_named
