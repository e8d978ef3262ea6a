use Rattle.listing_laws.proofs.PlaceLemmas.{clauses_placed}
use Rattle.listing_laws.proofs.places.law_of_listed_places.Goals as goal

pub returns : goal.returns
returns c = clauses_placed
