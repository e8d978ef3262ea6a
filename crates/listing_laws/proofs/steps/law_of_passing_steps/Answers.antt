use Rattle.listing_laws.proofs.called.Steps.{first_found, seeds_found, steps_found}
use Rattle.listing_laws.proofs.steps.law_of_passing_steps.Goals as goal

pub returns : goal.returns
returns c = record { steps = steps_found; seeds = seeds_found; first = first_found }
