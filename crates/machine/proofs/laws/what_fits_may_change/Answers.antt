use Rattle.machine.proofs.Beginning.{registers_fit, delay_fits, local_byte_fits}
use Rattle.machine.proofs.laws.what_fits_may_change.Goals as goal

pub returns-clause-registers : goal.returns-clause-registers
returns-clause-registers c = registers_fit

pub returns-clause-delay : goal.returns-clause-delay
returns-clause-delay c = delay_fits

pub returns-clause-local_byte : goal.returns-clause-local_byte
returns-clause-local_byte c = local_byte_fits
