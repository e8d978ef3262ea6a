use Rattle.listing_laws.proofs.made.Compiled.{listings_compiled}
use Rattle.listing_laws.proofs.made.Listings.{layouts_right, listings_compile, statements_right}
use Rattle.listing_laws.proofs.compiled_listings.law_of_compiled_listings.Goals as goal

pub returns-clause-accepted : goal.returns-clause-accepted
returns-clause-accepted c =
    listings_compiled c.law_of_accepted_listings.ensures c.law_of_whole_listings.ensures.whole c.law_of_bodies_again.ensures.kept
    c.law_of_listed_data_blocks.ensures
    (layouts_right c.law_of_whole_listings.ensures.heads c.law_of_listed_settings.ensures c.law_of_right_bodies.ensures)
    (statements_right c.law_of_listed_settings.ensures c.law_of_right_bodies.ensures)

pub returns-clause-compile : goal.returns-clause-compile
returns-clause-compile c = listings_compile (returns-clause-accepted c)
