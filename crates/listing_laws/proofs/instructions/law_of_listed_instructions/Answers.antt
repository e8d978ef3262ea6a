use Rattle.listing_laws.proofs.instructions.law_of_listed_instructions.Goals as goal
use Rattle.listing_laws.proofs.ruled.Instructions.{instructions_kept, jumps_kept}

pub returns : goal.returns
returns c = record { kept = instructions_kept; jumps = jumps_kept }
