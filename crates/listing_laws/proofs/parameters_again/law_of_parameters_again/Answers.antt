use Rattle.listing_laws.proofs.parameters_again.law_of_parameters_again.Goals as goal
use Rattle.listing_laws.proofs.remade.Parameters.{parameters_again}

pub returns : goal.returns
returns c = record { again = parameters_again }
