use Rattle.listing_laws.proofs.naming.Programs.{accepted_read}
use Rattle.listing_laws.proofs.named_programs.law_of_accepted_listings.Goals as goal

pub returns : goal.returns
returns c = accepted_read c.law_of_listed_source.ensures.compiled
