use Rattle.machine.proofs.Lasting.{ready_is}
use Rattle.machine.proofs.laws.what_fits_goes.Goals as goal

pub returns : goal.returns
returns c = ready_is c.what_verifying_gives.ensures
