use Rattle.listing_laws.proofs.called.Owned.{own_seen}
use Rattle.listing_laws.proofs.own_types.law_of_own_types.Goals as goal

pub returns : goal.returns
returns c = record { seen = own_seen }
