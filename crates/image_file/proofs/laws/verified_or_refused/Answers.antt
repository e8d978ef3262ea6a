use Rattle.image_file.proofs.RefusalLemmas.{verified_or_not, fault_is_one}
use Rattle.image_file.proofs.laws.verified_or_refused.Goals as goal

pub returns-clause-either : goal.returns-clause-either
returns-clause-either c = verified_or_not

pub returns-clause-one : goal.returns-clause-one
returns-clause-one c = fault_is_one
