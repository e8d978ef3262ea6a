use Rattle.listing_laws.proofs.declared.Own.{own_bytes}
use Rattle.listing_laws.proofs.data_bytes.law_of_listed_bytes.Goals as goal

pub returns : goal.returns
returns c = own_bytes
