use Rattle.sem_kept.proofs.Suspended.{images_resume}
use Rattle.sem_kept.proofs.laws.resumes_image.Goals as goal

pub returns : goal.returns
returns c = images_resume c.continues_replay.ensures.state
