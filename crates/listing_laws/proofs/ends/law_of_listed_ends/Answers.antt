use Rattle.listing_laws.proofs.EndLemmas.{ends_free}
use Rattle.listing_laws.proofs.ends.law_of_listed_ends.Goals as goal

pub returns : goal.returns
returns c = ends_free
