use Rattle.machine.proofs.Beginning.{memory_begins, input_sizes, cleared_sizes, refreshed_sizes}
use Rattle.machine.proofs.Sizes.{writing_sizes}
use Rattle.machine.proofs.laws.memory_is_kept.Goals as goal

pub returns-clause-begins : goal.returns-clause-begins
returns-clause-begins c = memory_begins

pub returns-clause-writes : goal.returns-clause-writes
returns-clause-writes c = writing_sizes

pub returns-clause-inputs : goal.returns-clause-inputs
returns-clause-inputs c = input_sizes

pub returns-clause-clears : goal.returns-clause-clears
returns-clause-clears c = cleared_sizes

pub returns-clause-refreshes : goal.returns-clause-refreshes
returns-clause-refreshes c = refreshed_sizes
