use Rattle.block_layout.proofs.OffsetLemmas.{finds_sound, offsets_alone, offsets_are}
use Rattle.block_layout.proofs.laws.law_of_offsets.Goals as goal

pub returns-clause-are : goal.returns-clause-are
returns-clause-are c = offsets_are

pub returns-clause-alone : goal.returns-clause-alone
returns-clause-alone c = offsets_alone

pub returns-clause-found : goal.returns-clause-found
returns-clause-found c = finds_sound
