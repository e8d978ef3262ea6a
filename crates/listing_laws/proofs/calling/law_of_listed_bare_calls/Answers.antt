use Rattle.listing_laws.proofs.calling.law_of_listed_bare_calls.Goals as goal
use Rattle.listing_laws.proofs.ruled.Calling.{calls_kept}

pub returns : goal.returns
returns c = record { kept = calls_kept }
