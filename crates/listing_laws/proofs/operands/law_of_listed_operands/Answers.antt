use Rattle.listing_laws.proofs.operands.law_of_listed_operands.Goals as goal
use Rattle.listing_laws.proofs.ruled.Operands.{operands_kept}

pub returns : goal.returns
returns c = record { kept = operands_kept }
