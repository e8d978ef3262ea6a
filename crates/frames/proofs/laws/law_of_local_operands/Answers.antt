use Rattle.frames.proofs.OwnBytesLemmas.{number_own, written_own}
use Rattle.frames.proofs.laws.law_of_local_operands.Goals as goal

pub returns-clause-number : goal.returns-clause-number
returns-clause-number c = number_own

pub returns-clause-written : goal.returns-clause-written
returns-clause-written c = written_own
