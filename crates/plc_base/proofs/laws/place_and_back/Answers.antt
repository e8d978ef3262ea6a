use Rattle.std.proofs.Common.{arith}
use Rattle.plc_base.proofs.RoundTrips.{place_of-pointer_of}
use Rattle.plc_base.proofs.laws.place_and_back.Goals as goal

pub returns : goal.returns
returns c = place_of-pointer_of c.args.place.now c.requires.no_number (omega arith) c.requires.bit
