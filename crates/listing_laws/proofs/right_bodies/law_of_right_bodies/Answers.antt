use Rattle.listing_laws.proofs.right.Trees.{listed_bodies_right}
use Rattle.listing_laws.proofs.right_bodies.law_of_right_bodies.Goals as goal

pub returns : goal.returns
returns c = listed_bodies_right
