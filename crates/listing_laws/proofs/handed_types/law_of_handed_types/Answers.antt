use Rattle.listing_laws.proofs.called.HandedOn.{links_handed_on, types_listed}
use Rattle.listing_laws.proofs.called.Passed.{passed_on, statements_handed_on}
use Rattle.listing_laws.proofs.handed_types.law_of_handed_types.Goals as goal

pub returns : goal.returns
returns c = record {
  links = links_handed_on;
  types = types_listed;
  passed = passed_on;
  statements = statements_handed_on;
}
