use Rattle.listing_laws.proofs.called.Names.{own_names_apart, system_names_apart}
use Rattle.listing_laws.proofs.called_names.law_of_called_names.Goals as goal

pub returns : goal.returns
returns c = record { own = own_names_apart; system = system_names_apart }
