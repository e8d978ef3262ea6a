use Rattle.listing_laws.proofs.called.Chains.{labels_joined, marks_handed, types_kept}
use Rattle.listing_laws.proofs.chains.law_of_listed_chains.Goals as goal

pub returns : goal.returns
returns c = record { labels = labels_joined; marks = marks_handed; types = types_kept }
