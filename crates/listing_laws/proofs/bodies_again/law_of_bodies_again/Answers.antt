use Rattle.listing_laws.proofs.bodies_again.law_of_bodies_again.Goals as goal
use Rattle.listing_laws.proofs.remade.Bodies.{bodies_again, statements_again}

pub returns : goal.returns
returns c = record { statements = statements_again; kept = bodies_again }
