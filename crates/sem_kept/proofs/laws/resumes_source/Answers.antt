use Rattle.sem_kept.proofs.Suspended.{sources_resume}
use Rattle.sem_kept.proofs.laws.resumes_source.Goals as goal

pub returns : goal.returns
returns c = sources_resume c.continues_replay.ensures.state
