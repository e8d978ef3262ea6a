use Rattle.listing_laws.proofs.IdLemmas.{blocks_found, blocks_kept, ids_listed, no_types}
use Rattle.listing_laws.proofs.ids.law_of_listed_ids.Goals as goal

pub returns : goal.returns
returns c = record { listed = ids_listed; kept = blocks_kept; found = blocks_found; plain = no_types }
