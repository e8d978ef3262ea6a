use Rattle.block_layout.proofs.SumLemmas.{leads_to_one, offsets_are_sums}
use Rattle.block_layout.proofs.laws.law_of_paths.Goals as goal

pub returns-clause-sums : goal.returns-clause-sums
returns-clause-sums c = offsets_are_sums

pub returns-clause-alone : goal.returns-clause-alone
returns-clause-alone c = leads_to_one
