use Rattle.listing_laws.proofs.declared.OwnData.{own_data}
use Rattle.listing_laws.proofs.declared.OwnKept.{own_kept}
use Rattle.listing_laws.proofs.own_data.law_of_own_data_blocks.Goals as goal

pub returns : goal.returns
returns c = record { again = own_data; kept = own_kept }
