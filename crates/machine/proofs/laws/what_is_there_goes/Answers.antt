use Rattle.machine.proofs.Going.{fetched_goes}
use Rattle.machine.proofs.laws.what_is_there_goes.Goals as goal

pub returns : goal.returns
returns c = λ code a w there.
    fetched_goes code (code.fetch a.running.frame.block a.running.frame.at) a w there
