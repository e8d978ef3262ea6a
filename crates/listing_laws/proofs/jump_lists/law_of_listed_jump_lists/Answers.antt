use Rattle.listing_laws.proofs.jump_lists.law_of_listed_jump_lists.Goals as goal
use Rattle.listing_laws.proofs.right.Words.{listed_lists}

pub returns : goal.returns
returns c = listed_lists
