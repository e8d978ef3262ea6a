use Rattle.listing_laws.proofs.listed_landings.law_of_listed_landings.Goals as goal
use Rattle.listing_laws.proofs.right.Words.{listed_landings}

pub returns : goal.returns
returns c = listed_landings
