use Rattle.std.proofs.Common.{arith}
use Rattle.plc_base.proofs.RoundTrips.{signed_of_bcd-bcd_of_signed}
use Rattle.plc_base.proofs.laws.dint_and_back.Goals as goal

pub returns : goal.returns
returns c = signed_of_bcd-bcd_of_signed 7 c.args.number (omega arith)
