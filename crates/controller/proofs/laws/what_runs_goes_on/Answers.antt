use Rattle.controller.proofs.FittingLemmas.{ready, start_fits, entries_keep, histories_fit}
use Rattle.controller.proofs.laws.what_runs_goes_on.Goals as goal

pub returns-clause-ready : goal.returns-clause-ready
returns-clause-ready c = ready c.what_the_machine_gives.ensures

pub returns-clause-start : goal.returns-clause-start
returns-clause-start c = start_fits c.what_the_machine_gives.ensures

pub returns-clause-entry : goal.returns-clause-entry
returns-clause-entry c = entries_keep c.what_the_machine_gives.ensures

pub returns-clause-history : goal.returns-clause-history
returns-clause-history c = histories_fit c.what_the_machine_gives.ensures
