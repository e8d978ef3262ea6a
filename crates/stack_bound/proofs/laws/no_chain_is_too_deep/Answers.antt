use Rattle.stack_bound.proofs.BoundLemmas.{none_deep}
use Rattle.stack_bound.proofs.laws.no_chain_is_too_deep.Goals as goal

pub returns : goal.returns
returns c = none_deep
