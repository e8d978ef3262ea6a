use Rattle.ob_sched.proofs.RankingLemmas.{queued_joins as law}
use Rattle.ob_sched.proofs.laws.queued_joins.Goals as goal

pub returns : goal.returns
returns c = law
