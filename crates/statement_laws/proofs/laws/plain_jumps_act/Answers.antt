use Rattle.statement_laws.proofs.JumpLemmas.{plain_jumps_act}
use Rattle.statement_laws.proofs.laws.plain_jumps_act.Goals as goal

pub returns : goal.returns
returns c = plain_jumps_act
