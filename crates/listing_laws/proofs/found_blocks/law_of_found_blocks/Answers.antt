use Rattle.listing_laws.proofs.found_blocks.law_of_found_blocks.Goals as goal
use Rattle.listing_laws.proofs.made.Found.{called_found, data_found}

pub returns : goal.returns
returns c = record { stored = data_found; called = called_found }
