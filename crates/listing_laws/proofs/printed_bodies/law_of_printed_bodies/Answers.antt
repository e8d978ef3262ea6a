use Rattle.listing_laws.proofs.BodyLemmas.{bodies_printed}
use Rattle.listing_laws.proofs.printed_bodies.law_of_printed_bodies.Goals as goal

pub returns : goal.returns
returns c = bodies_printed
