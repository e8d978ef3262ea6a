use Rattle.listing_laws.proofs.called.Fitting.{fitting_listed}
use Rattle.listing_laws.proofs.fitting.law_of_fitting_passings.Goals as goal

pub returns : goal.returns
returns c = record { fitting = fitting_listed }
