use Rattle.listing_laws.proofs.filled.Rules.{settings_are_right}
use Rattle.listing_laws.proofs.instances.law_of_listed_settings.Goals as goal

pub returns : goal.returns
returns c = settings_are_right
