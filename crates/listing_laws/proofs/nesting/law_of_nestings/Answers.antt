use Rattle.listing_laws.proofs.nesting.law_of_nestings.Goals as goal
use Rattle.listing_laws.proofs.ruled.Marks.{listed_nestings_kept, marks_kept}
use Rattle.listing_laws.proofs.ruled.Nesting.{nestings_kept}

pub returns : goal.returns
returns c = record { kept = nestings_kept; marks = marks_kept; listed = listed_nestings_kept }
