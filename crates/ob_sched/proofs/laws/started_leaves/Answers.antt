use Rattle.ob_sched.proofs.RankingLemmas.{started_leaves as law}
use Rattle.ob_sched.proofs.laws.started_leaves.Goals as goal

pub returns : goal.returns
returns c = law
