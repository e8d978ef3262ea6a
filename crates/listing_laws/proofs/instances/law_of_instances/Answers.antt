use Rattle.listing_laws.proofs.filled.Listed.{instances_again, instances_are_long}
use Rattle.listing_laws.proofs.instances.law_of_instances.Goals as goal

pub returns : goal.returns
returns c = record { long = instances_are_long; again = instances_again }
