use Rattle.ob_sched.proofs.RankingLemmas.{best_outranks_all as law}
use Rattle.ob_sched.proofs.laws.best_outranks_all.Goals as goal

pub returns : goal.returns
returns c = law
