use Rattle.std.proofs.Common.{refl}
use Rattle.frames.proofs.OwnBytesLemmas.{closed_own, each_is, none_laid, opened_own, together}
use Rattle.frames.proofs.laws.law_of_local_bytes.Goals as goal

pub returns-clause-each : goal.returns-clause-each
returns-clause-each c = each_is

pub returns-clause-together : goal.returns-clause-together
returns-clause-together c = together

pub returns-clause-none : goal.returns-clause-none
returns-clause-none c = (none_laid, refl)

pub returns-clause-opened : goal.returns-clause-opened
returns-clause-opened c = opened_own

pub returns-clause-closed : goal.returns-clause-closed
returns-clause-closed c = closed_own
