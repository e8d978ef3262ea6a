use Rattle.sem_kept.proofs.compiled.Verified.{verified_is_compilable}
use Rattle.sem_kept.proofs.laws.verified_is_compilable.Goals as goal

-- src/laws.rt:25:1
pub returns : goal.returns
returns c = verified_is_compilable
