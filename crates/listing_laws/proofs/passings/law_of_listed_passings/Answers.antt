use Rattle.listing_laws.proofs.called.Passings.{actuals_right, calls_complete, passings_kept}
use Rattle.listing_laws.proofs.passings.law_of_listed_passings.Goals as goal

pub returns : goal.returns
returns c = record { passings = passings_kept; actuals = actuals_right; complete = calls_complete }
