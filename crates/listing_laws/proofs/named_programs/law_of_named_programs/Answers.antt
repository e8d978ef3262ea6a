use Rattle.listing_laws.proofs.naming.Programs.{sources_named}
use Rattle.listing_laws.proofs.named_programs.law_of_named_programs.Goals as goal

pub returns : goal.returns
returns c = sources_named
