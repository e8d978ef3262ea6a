use Rattle.listing_laws.proofs.SymbolOrderLemmas.{names_kept, names_read}
use Rattle.listing_laws.proofs.names.law_of_listed_names.Goals as goal

pub returns : goal.returns
returns c = record { read = names_read; kept = names_kept }
