use Rattle.plc_base.proofs.LeastLemmas.{least_none, least_some}
use Rattle.plc_base.proofs.laws.law_of_least.Goals as goal

pub returns : goal.returns
returns c = record { none = least_none; some = least_some }
