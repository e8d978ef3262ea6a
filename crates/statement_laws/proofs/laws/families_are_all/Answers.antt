use Rattle.statement_laws.proofs.NumberLemmas.{families_are_all}
use Rattle.statement_laws.proofs.laws.families_are_all.Goals as goal

pub returns : goal.returns
returns c = families_are_all
