use Rattle.listing_laws.proofs.RunLemmas.{count_found, numbers_found, runs_found, starts_found, targets_found}
use Rattle.listing_laws.proofs.statements.law_of_listed_statements.Goals as goal

pub returns : goal.returns
returns c = record {
  runs = runs_found;
  starts = starts_found;
  count = count_found;
  numbers = numbers_found;
  targets = targets_found;
}
