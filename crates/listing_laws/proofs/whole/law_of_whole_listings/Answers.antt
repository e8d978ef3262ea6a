use Rattle.listing_laws.proofs.unbroken.Listings.{are_right, are_whole, data_laid_again}
use Rattle.listing_laws.proofs.whole.law_of_whole_listings.Goals as goal

pub returns : goal.returns
returns c = record { whole = are_whole; heads = are_right; stored = data_laid_again }
