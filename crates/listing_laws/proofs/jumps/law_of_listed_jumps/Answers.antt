use Rattle.listing_laws.proofs.JumpLemmas.{labels_once}
use Rattle.listing_laws.proofs.jumps.law_of_listed_jumps.Goals as goal

pub returns : goal.returns
returns c = labels_once
