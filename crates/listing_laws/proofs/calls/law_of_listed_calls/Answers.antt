use Rattle.listing_laws.proofs.called.Calls.{calls_kept, calls_listed, calls_whole, functions_known, instances_right, statements_listed}
use Rattle.listing_laws.proofs.calls.law_of_listed_calls.Goals as goal

pub returns : goal.returns
returns c = record {
  listed = calls_listed;
  statements = statements_listed;
  kept = calls_kept;
  known = functions_known;
  whole = calls_whole;
  instances = instances_right;
}
