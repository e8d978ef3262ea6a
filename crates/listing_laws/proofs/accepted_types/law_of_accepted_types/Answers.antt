use Rattle.listing_laws.proofs.called.AcceptedTypes.{accepted_types_kept, accepted_types_owed}
use Rattle.listing_laws.proofs.accepted_types.law_of_accepted_types.Goals as goal

pub returns : goal.returns
returns c = record { owed = accepted_types_owed; kept = accepted_types_kept }
