use Rattle.listing_laws.proofs.called.Listed.{ends_alike, listed_as, parameters_listed}
use Rattle.listing_laws.proofs.listed_parameters.law_of_listed_parameters.Goals as goal

pub returns : goal.returns
returns c = record { parameters = parameters_listed; records = listed_as; ends = ends_alike }
