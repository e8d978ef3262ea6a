use Rattle.listing_laws.proofs.bodies.law_of_listed_bodies.Goals as goal
use Rattle.listing_laws.proofs.ruled.Bodies.{bodies_kept}

pub returns : goal.returns
returns c = record { kept = bodies_kept }
