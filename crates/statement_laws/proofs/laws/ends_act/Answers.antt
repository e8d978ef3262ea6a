use Rattle.statement_laws.proofs.JumpLemmas.{ends_act}
use Rattle.statement_laws.proofs.laws.ends_act.Goals as goal

pub returns : goal.returns
returns c = ends_act
