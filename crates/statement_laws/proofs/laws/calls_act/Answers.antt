use Rattle.statement_laws.proofs.CallLemmas.{calls_act}
use Rattle.statement_laws.proofs.laws.calls_act.Goals as goal

pub returns : goal.returns
returns c = calls_act
