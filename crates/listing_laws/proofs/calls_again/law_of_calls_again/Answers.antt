use Rattle.listing_laws.proofs.calls_again.law_of_calls_again.Goals as goal
use Rattle.listing_laws.proofs.remade.Calls.{calls_again}
use Rattle.listing_laws.proofs.remade.Right.{operands_right}

pub returns : goal.returns
returns c = record { again = calls_again; operands = operands_right }
