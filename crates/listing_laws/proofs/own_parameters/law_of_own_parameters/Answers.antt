use Rattle.listing_laws.proofs.own_parameters.law_of_own_parameters.Goals as goal
use Rattle.listing_laws.proofs.ruled.Parameters.{own_parameters_found}

pub returns : goal.returns
returns c = record { found = own_parameters_found }
