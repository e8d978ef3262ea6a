use Rattle.s7_cli.proofs.ListLemmas.{give-images, give-listings, give-programs}
use Rattle.s7_cli.proofs.listing.law_of_listings.Goals as goal

pub returns-clause-programs : goal.returns-clause-programs
returns-clause-programs c = give-programs c.law_of_programs.ensures.one

pub returns-clause-images : goal.returns-clause-images
returns-clause-images c = give-images c.law_of_programs.ensures.one c.one_program.ensures.one

pub returns-clause-compile : goal.returns-clause-compile
returns-clause-compile c = give-listings c.law_of_compiled_listings.ensures.compile c.one_program.ensures.one
