use Rattle.listing_laws.proofs.called.Sources.{source_types_kept, sources_handed_on}
use Rattle.listing_laws.proofs.source_types.law_of_source_types.Goals as goal

pub returns : goal.returns
returns c = record { handed = sources_handed_on; kept = source_types_kept }
