use Rattle.machine.proofs.Staying.{program_fits_still}
use Rattle.machine.proofs.laws.what_fits_stays.Goals as goal

pub returns : goal.returns
returns c = program_fits_still
