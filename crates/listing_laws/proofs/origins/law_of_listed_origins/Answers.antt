use Rattle.listing_laws.proofs.made.Origins.{data_listed, made_of_source}
use Rattle.listing_laws.proofs.origins.law_of_listed_origins.Goals as goal

pub returns : goal.returns
returns c = record { made = made_of_source; stored = data_listed }
