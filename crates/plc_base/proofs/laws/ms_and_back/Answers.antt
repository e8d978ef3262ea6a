use Rattle.plc_base.proofs.RoundTrips.{ms_of-s5time_of}
use Rattle.plc_base.proofs.laws.ms_and_back.Goals as goal

pub returns : goal.returns
returns c = ms_of-s5time_of c.args.ms c.args.base c.requires
