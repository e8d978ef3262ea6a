use Rattle.machine.proofs.Beginning.{result_fits}
use Rattle.machine.proofs.laws.results_fit.Goals as goal

pub returns : goal.returns
returns c = result_fits c.what_verifying_gives.ensures
