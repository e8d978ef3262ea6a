use Rattle.listing_laws.proofs.again_bodies.law_of_again_bodies.Goals as goal
use Rattle.listing_laws.proofs.made.CodeBlocks.{code_blocks_kept}

pub returns : goal.returns
returns c = record { kept = code_blocks_kept }
